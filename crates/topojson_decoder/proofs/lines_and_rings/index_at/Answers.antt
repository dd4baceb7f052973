use Rattle.std.proofs.Common.{◌≡◌, arith, refl, ◌∙◌}
use Rattle.std.proofs.lemmas.Int.{ints}
use mir.Syntax.{w64}
use mir.Val.{to_z, of_z}
use Rattle.json_cursor.specs.Arrays.{prefix_value}
use Rattle.json_cursor.proofs.Steps.{then_stops}
use Rattle.topojson_meaning.specs.declared.fault.TopoFault.TheVariants.{WrongKind, IndexRange}
use Rattle.topojson_meaning.specs.Lines.{index, index_limit}
use Rattle.topojson_decoder.specs.declared.numbers.Scale.TheVariants as scale
use Rattle.topojson_decoder.specs.Numbers.{number}
use Rattle.topojson_decoder.specs.LinesAndRings.{index_of}
use Rattle.topojson_decoder.proofs.Then.{then_faults, then_reads}
use Rattle.topojson_decoder.proofs.LineOrRingParts.{is_false, is_true, index_is, not_whole, past_arcs, names_arc}
use Rattle.topojson_decoder.proofs.lines_and_rings.index_at.Goals as goal

pub returns-in-Err : goal.returns-in-Err
returns-in-Err c = then_stops (number (scale.Whole index_limit)) (index_of c.args.count) (index c.args.count) (prefix_value c.args.depth_left c.args.bytes.now) c.args.counts.now (λ v. index_is c.args.count v c.args.counts.now) c.in-Err.stop (c.in-Err.ensures.answers c.args.counts.now)

pub returns-in_default : goal.returns-in_default
returns-in_default c = then_faults (number (scale.Whole index_limit)) (index_of c.args.count) (index c.args.count) (prefix_value c.args.depth_left c.args.bytes.now) c.args.counts.now (λ v. index_is c.args.count v c.args.counts.now) _ _ _ (c.in-Ok.ensures.answers c.args.counts.now) IndexRange (rw c.in_default.is refl)

pub returns-then-not-number : goal.returns-then-not-number
returns-then-not-number c = then_faults (number (scale.Whole index_limit)) (index_of c.args.count) (index c.args.count) (prefix_value c.args.depth_left c.args.bytes.now) c.args.counts.now (λ v. index_is c.args.count v c.args.counts.now) _ _ _ (rw c.in-Some.is at (c.in-Ok.ensures.answers c.args.counts.now)) WrongKind (not_whole c.args.count c.in-Some.number c.args.counts.now (is_false _ c.if-not-number.true))

pub returns-then-index-count : goal.returns-then-index-count
returns-then-index-count c =
    let same : to_z w64 (of_z w64 c.in-Some.number.value) ≡ c.in-Some.number.value = omega (arith, ints, rw c.in-Some.is at c.in-Ok.ensures.within) in
    let named = rw (c.of-reference.ensures ∙ same) at c.index.ensures in
    then_faults (number (scale.Whole index_limit)) (index_of c.args.count) (index c.args.count) (prefix_value c.args.depth_left c.args.bytes.now) c.args.counts.now (λ v. index_is c.args.count v c.args.counts.now) _ _ _ (rw c.in-Some.is at (c.in-Ok.ensures.answers c.args.counts.now)) IndexRange
    (past_arcs c.args.count c.in-Some.number c.args.counts.now (is_true _ c.if-not-number.false) (omega (arith, named, c.if-index-count.true)))

pub returns-else-index-count : goal.returns-else-index-count
returns-else-index-count c =
    let same : to_z w64 (of_z w64 c.in-Some.number.value) ≡ c.in-Some.number.value = omega (arith, ints, rw c.in-Some.is at c.in-Ok.ensures.within) in
    let named = rw (c.of-reference.ensures ∙ same) at c.index.ensures in
    rw (c.of-reference.ensures ∙ same)
    (then_reads (number (scale.Whole index_limit)) (index_of c.args.count) (index c.args.count) (prefix_value c.args.depth_left c.args.bytes.now) c.args.counts.now (λ v. index_is c.args.count v c.args.counts.now) _ _ _ (rw c.in-Some.is at (c.in-Ok.ensures.answers c.args.counts.now)) _ _
    (names_arc c.args.count c.in-Some.number c.args.counts.now (is_true _ c.if-not-number.false) (omega (arith, named, c.if-index-count.false))))
