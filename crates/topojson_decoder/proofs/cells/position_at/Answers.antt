use Rattle.std.proofs.Common.{◌≡◌, refl, arith}
use Rattle.std.proofs.lemmas.Int.{ints}
use mir.Syntax.{w64}
use mir.Val.{to_z, of_z}
use Rattle.json_cursor.specs.Arrays.{prefix_value}
use Rattle.topojson_meaning.specs.Arcs.{position}
use Rattle.topojson_decoder.specs.declared.numbers.Scale.TheVariants as scale
use Rattle.topojson_decoder.specs.Pairs.{pair, plain_pair}
use Rattle.topojson_decoder.specs.Cells.{position_of}
use Rattle.topojson_decoder.proofs.Then.{then_reads}
use Rattle.topojson_decoder.proofs.CellParts.{position_is, in_position}
use Rattle.topojson_decoder.proofs.cells.position_at.Goals as goal

pub returns : goal.returns
returns c =
    let x : to_z w64 (of_z w64 c.in-Some.x) ≡ c.in-Some.x = omega (arith, ints, c.in-Some.ensures.x) in
    let y : to_z w64 (of_z w64 c.in-Some.y) ≡ c.in-Some.y = omega (arith, ints, c.in-Some.ensures.y) in
    let made = rw (x, y) at c.at.ensures in
    rw (made, c.count_extra.ensures)
    (then_reads (pair scale.Units) position_of position (prefix_value c.args.depth_left c.args.bytes.now) c.args.counts.now (λ v. position_is v c.args.counts.now) _ _ _ (c.in-Some.ensures.reads c.args.counts.now) _ _
    (in_position (plain_pair c.in-Some.x c.in-Some.y c.in-Some.more) c.args.counts.now _ _ refl refl))
