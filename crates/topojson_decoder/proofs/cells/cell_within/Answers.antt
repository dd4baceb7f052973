use Rattle.std.proofs.Common.{◌≡◌, refl, arith, sym, ◌∙◌}
use Rattle.std.proofs.lemmas.Int.{ints}
use mir.Syntax.{w64}
use mir.Val.{to_z, of_z}
use Rattle.json_cursor.specs.Arrays.{prefix_value}
use Rattle.topojson_meaning.specs.Arcs.{cell}
use Rattle.topojson_decoder.specs.declared.numbers.Scale.TheVariants as scale
use Rattle.topojson_decoder.specs.Pairs.{pair, plain_pair}
use Rattle.topojson_decoder.specs.Cells.{cell_of}
use Rattle.topojson_decoder.proofs.Then.{then_faults, then_reads}
use Rattle.topojson_decoder.proofs.CellParts.{cell_is, off_grid, on_grid}
use Rattle.topojson_decoder.proofs.cells.cell_within.Goals as goal

pub returns-in-Err : goal.returns-in-Err
returns-in-Err c =
    let x : to_z w64 (of_z w64 c.in-Some.x) ≡ c.in-Some.x = omega (arith, ints, c.in-Some.ensures.x, c.requires) in
    let y : to_z w64 (of_z w64 c.in-Some.y) ≡ c.in-Some.y = omega (arith, ints, c.in-Some.ensures.y, c.requires) in
    let made = rw (x, y) at c.at-difference.ensures in
    let found = rw made at (sym c.cell.ensures ∙ c.in-Err.is) in
    then_faults (pair (scale.Whole c.args.bound)) (cell_of c.args.grid.transform.now c.args.before) (cell c.args.grid.transform.now c.args.bound c.args.before) (prefix_value c.args.depth_left c.args.bytes.now) c.args.counts.now (λ v. cell_is c.args.grid.transform.now c.args.bound c.args.before v c.args.counts.now) _ _ _ (c.in-Some.ensures.reads c.args.counts.now) _
    (off_grid (plain_pair c.in-Some.x c.in-Some.y c.in-Some.more) c.args.counts.now c.args.grid.transform.now c.args.before c.in-Some.x refl c.in-Some.y refl _ found)

pub returns-in-Some-known_cell : goal.returns-in-Some-known_cell
returns-in-Some-known_cell c =
    let x : to_z w64 (of_z w64 c.in-Some.x) ≡ c.in-Some.x = omega (arith, ints, c.in-Some.ensures.x, c.requires) in
    let y : to_z w64 (of_z w64 c.in-Some.y) ≡ c.in-Some.y = omega (arith, ints, c.in-Some.ensures.y, c.requires) in
    let made = rw (x, y) at c.at-difference.ensures in
    let found = rw made at c.in-Some-known_cell.ensures in
    rw c.count_extra.ensures
    (then_reads (pair (scale.Whole c.args.bound)) (cell_of c.args.grid.transform.now c.args.before) (cell c.args.grid.transform.now c.args.bound c.args.before) (prefix_value c.args.depth_left c.args.bytes.now) c.args.counts.now (λ v. cell_is c.args.grid.transform.now c.args.bound c.args.before v c.args.counts.now) _ _ _ (c.in-Some.ensures.reads c.args.counts.now) _ _
    (on_grid (plain_pair c.in-Some.x c.in-Some.y c.in-Some.more) c.args.counts.now c.args.grid.transform.now c.args.before c.in-Some.x refl c.in-Some.y refl _ found))

pub returns-in-Ok : goal.returns-in-Ok
returns-in-Ok c =
    let x : to_z w64 (of_z w64 c.in-Some.x) ≡ c.in-Some.x = omega (arith, ints, c.in-Some.ensures.x, c.requires) in
    let y : to_z w64 (of_z w64 c.in-Some.y) ≡ c.in-Some.y = omega (arith, ints, c.in-Some.ensures.y, c.requires) in
    let made = rw (x, y) at c.at-difference.ensures in
    let found = rw made at (sym c.cell.ensures ∙ c.in-Ok.is) in
    rw c.count_extra-in-Ok.ensures
    (then_reads (pair (scale.Whole c.args.bound)) (cell_of c.args.grid.transform.now c.args.before) (cell c.args.grid.transform.now c.args.bound c.args.before) (prefix_value c.args.depth_left c.args.bytes.now) c.args.counts.now (λ v. cell_is c.args.grid.transform.now c.args.bound c.args.before v c.args.counts.now) _ _ _ (c.in-Some.ensures.reads c.args.counts.now) _ _
    (on_grid (plain_pair c.in-Some.x c.in-Some.y c.in-Some.more) c.args.counts.now c.args.grid.transform.now c.args.before c.in-Some.x refl c.in-Some.y refl _ found))
