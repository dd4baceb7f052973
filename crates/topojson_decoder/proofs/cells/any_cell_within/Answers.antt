use Rattle.std.proofs.Common.{◌≡◌, arith, sym, ◌∙◌}
use Rattle.std.proofs.lemmas.Int.{ints}
use mir.Syntax.{w64}
use mir.Val.{to_z, of_z}
use Rattle.json_cursor.specs.Arrays.{prefix_value}
use Rattle.json_cursor.proofs.Steps.{then_stops}
use Rattle.topojson_meaning.specs.declared.fault.TopoFault.TheVariants.{GridNumber}
use Rattle.topojson_meaning.specs.Arcs.{cell}
use Rattle.topojson_decoder.specs.declared.numbers.Scale.TheVariants as scale
use Rattle.topojson_decoder.specs.Pairs.{pair}
use Rattle.topojson_decoder.specs.Cells.{cell_of}
use Rattle.topojson_decoder.proofs.Then.{then_faults, then_reads}
use Rattle.topojson_decoder.proofs.CellParts.{cell_is, no_x, no_y, off_grid, on_grid, whole_within}
use Rattle.topojson_decoder.proofs.cells.any_cell_within.Goals as goal

pub returns-in-Err : goal.returns-in-Err
returns-in-Err c = then_stops (pair (scale.Whole c.args.bound)) (cell_of c.args.grid.transform.now c.args.before) (cell c.args.grid.transform.now c.args.bound c.args.before) (prefix_value c.args.depth_left c.args.bytes.now) c.args.counts.now (λ v. cell_is c.args.grid.transform.now c.args.bound c.args.before v c.args.counts.now) c.in-Err.stop (c.in-Err.ensures.answers c.args.counts.now)

pub returns-in_default : goal.returns-in_default
returns-in_default c = then_faults (pair (scale.Whole c.args.bound)) (cell_of c.args.grid.transform.now c.args.before) (cell c.args.grid.transform.now c.args.bound c.args.before) (prefix_value c.args.depth_left c.args.bytes.now) c.args.counts.now (λ v. cell_is c.args.grid.transform.now c.args.bound c.args.before v c.args.counts.now) _ _ _ (c.in-Ok.ensures.answers c.args.counts.now) GridNumber (no_x c.in-Ok.pair c.args.counts.now c.args.grid.transform.now c.args.before (sym c.grid_number.ensures ∙ c.in_default.is))

pub returns-in_default-grid_number : goal.returns-in_default-grid_number
returns-in_default-grid_number c = then_faults (pair (scale.Whole c.args.bound)) (cell_of c.args.grid.transform.now c.args.before) (cell c.args.grid.transform.now c.args.bound c.args.before) (prefix_value c.args.depth_left c.args.bytes.now) c.args.counts.now (λ v. cell_is c.args.grid.transform.now c.args.bound c.args.before v c.args.counts.now) _ _ _ (c.in-Ok.ensures.answers c.args.counts.now) GridNumber (no_y c.in-Ok.pair c.args.counts.now c.args.grid.transform.now c.args.before c.in-Some.x (sym c.grid_number.ensures ∙ c.in-Some.is) (sym c.grid_number-in-Ok.ensures ∙ c.in_default-grid_number.is))

pub returns-in-Err-cell : goal.returns-in-Err-cell
returns-in-Err-cell c =
    let first = sym c.grid_number.ensures ∙ c.in-Some.is in
    let second = sym c.grid_number-in-Ok.ensures ∙ c.in-Some-grid_number.is in
    let x : to_z w64 (of_z w64 c.in-Some.x) ≡ c.in-Some.x = omega (arith, ints, whole_within c.in-Ok.pair.x c.args.bound c.in-Some.x c.in-Ok.ensures.x first, c.requires) in
    let y : to_z w64 (of_z w64 c.in-Some-grid_number.y) ≡ c.in-Some-grid_number.y = omega (arith, ints, whole_within c.in-Ok.pair.y c.args.bound c.in-Some-grid_number.y c.in-Ok.ensures.y second, c.requires) in
    let made = rw (x, y) at c.at.ensures in
    let found = rw made at (sym c.cell.ensures ∙ c.in-Err-cell.is) in
    then_faults (pair (scale.Whole c.args.bound)) (cell_of c.args.grid.transform.now c.args.before) (cell c.args.grid.transform.now c.args.bound c.args.before) (prefix_value c.args.depth_left c.args.bytes.now) c.args.counts.now (λ v. cell_is c.args.grid.transform.now c.args.bound c.args.before v c.args.counts.now) _ _ _ (c.in-Ok.ensures.answers c.args.counts.now) _
    (off_grid c.in-Ok.pair c.args.counts.now c.args.grid.transform.now c.args.before c.in-Some.x first c.in-Some-grid_number.y second _ found)

pub returns-in-Ok-cell : goal.returns-in-Ok-cell
returns-in-Ok-cell c =
    let first = sym c.grid_number.ensures ∙ c.in-Some.is in
    let second = sym c.grid_number-in-Ok.ensures ∙ c.in-Some-grid_number.is in
    let x : to_z w64 (of_z w64 c.in-Some.x) ≡ c.in-Some.x = omega (arith, ints, whole_within c.in-Ok.pair.x c.args.bound c.in-Some.x c.in-Ok.ensures.x first, c.requires) in
    let y : to_z w64 (of_z w64 c.in-Some-grid_number.y) ≡ c.in-Some-grid_number.y = omega (arith, ints, whole_within c.in-Ok.pair.y c.args.bound c.in-Some-grid_number.y c.in-Ok.ensures.y second, c.requires) in
    let made = rw (x, y) at c.at.ensures in
    let found = rw made at (sym c.cell.ensures ∙ c.in-Ok-cell.is) in
    rw c.count_extra.ensures
    (then_reads (pair (scale.Whole c.args.bound)) (cell_of c.args.grid.transform.now c.args.before) (cell c.args.grid.transform.now c.args.bound c.args.before) (prefix_value c.args.depth_left c.args.bytes.now) c.args.counts.now (λ v. cell_is c.args.grid.transform.now c.args.bound c.args.before v c.args.counts.now) _ _ _ (c.in-Ok.ensures.answers c.args.counts.now) _ _
    (on_grid c.in-Ok.pair c.args.counts.now c.args.grid.transform.now c.args.before c.in-Some.x first c.in-Some-grid_number.y second _ found))
