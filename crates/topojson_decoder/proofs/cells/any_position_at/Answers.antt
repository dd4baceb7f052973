use Rattle.std.proofs.Common.{◌≡◌, arith, refl}
use Rattle.std.proofs.lemmas.Int.{ints}
use mir.Syntax.{w64}
use mir.Val.{to_z, of_z}
use Rattle.json_cursor.specs.Arrays.{prefix_value}
use Rattle.json_cursor.proofs.Steps.{then_stops}
use Rattle.topojson_meaning.specs.declared.fault.TopoFault.TheVariants.{Range}
use Rattle.topojson_meaning.specs.Arcs.{position}
use Rattle.topojson_decoder.specs.declared.numbers.Scale.TheVariants as scale
use Rattle.topojson_decoder.specs.Pairs.{pair}
use Rattle.topojson_decoder.specs.Cells.{position_of}
use Rattle.topojson_decoder.proofs.Then.{then_faults, then_reads}
use Rattle.topojson_decoder.proofs.CellParts.{position_is, in_position}
use Rattle.topojson_decoder.proofs.cells.any_position_at.Goals as goal

pub returns-in-Err : goal.returns-in-Err
returns-in-Err c = then_stops (pair scale.Units) position_of position (prefix_value c.args.depth_left c.args.bytes.now) c.args.counts.now (λ v. position_is v c.args.counts.now) c.in-Err.stop (c.in-Err.ensures.answers c.args.counts.now)

pub returns-in_default : goal.returns-in_default
returns-in_default c = then_faults (pair scale.Units) position_of position (prefix_value c.args.depth_left c.args.bytes.now) c.args.counts.now (λ v. position_is v c.args.counts.now) _ _ _ (c.in-Ok.ensures.answers c.args.counts.now) Range (rw c.in_default.is refl)

pub returns-in_default-y : goal.returns-in_default-y
returns-in_default-y c = then_faults (pair scale.Units) position_of position (prefix_value c.args.depth_left c.args.bytes.now) c.args.counts.now (λ v. position_is v c.args.counts.now) _ _ _ (c.in-Ok.ensures.answers c.args.counts.now) Range (rw (c.in-Some.is, c.in_default-y.is) refl)

pub returns-in-Some-y : goal.returns-in-Some-y
returns-in-Some-y c =
    let x : to_z w64 (of_z w64 c.in-Some.x.value) ≡ c.in-Some.x.value = omega (arith, ints, rw c.in-Some.is at c.in-Ok.ensures.x) in
    let y : to_z w64 (of_z w64 c.in-Some-y.y.value) ≡ c.in-Some-y.y.value = omega (arith, ints, rw c.in-Some-y.is at c.in-Ok.ensures.y) in
    let made = rw (x, y) at c.at.ensures in
    rw (made, c.count_extra.ensures, c.count_rounded-in-Ok.ensures, c.count_rounded.ensures)
    (then_reads (pair scale.Units) position_of position (prefix_value c.args.depth_left c.args.bytes.now) c.args.counts.now (λ v. position_is v c.args.counts.now) _ _ _ (c.in-Ok.ensures.answers c.args.counts.now) _ _
    (in_position c.in-Ok.pair c.args.counts.now c.in-Some.x c.in-Some-y.y c.in-Some.is c.in-Some-y.is))
