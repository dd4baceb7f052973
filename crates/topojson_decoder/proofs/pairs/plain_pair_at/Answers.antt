use Rattle.std.proofs.Common.{◌≡◌, ◌-◌, Ok, arith}
use Rattle.std.proofs.lemmas.Int.{ints}
use mir.Syntax.{w64}
use mir.Val.{to_z, of_z}
use Rattle.topojson_meaning.specs.declared.fault.TopoFault.TheVariants.{WrongKind}
use Rattle.json_cursor.specs.Arrays.{prefix_value}
use Rattle.json_cursor.proofs.ArrayParts.{array_answers}
use Rattle.topojson_decoder.specs.Pairs.{both, plain_pair}
use Rattle.topojson_decoder.proofs.PairParts.{opened, plain_ends, plain_goes_on}
use Rattle.topojson_decoder.proofs.pairs.plain_pair_at.Goals as goal

pub returns-then-not-more-clause-reads : goal.returns-then-not-more-clause-reads
returns-then-not-more-clause-reads c = λ counts.
    let x : to_z w64 (of_z w64 c.in_ok-x.x) ≡ c.in_ok-x.x = omega (arith, ints, c.in_ok-x.ensures.x, c.requires) in
    let y : to_z w64 (of_z w64 c.in_ok-x.y) ≡ c.in_ok-x.y = omega (arith, ints, c.in_ok-x.ensures.y, c.requires) in
    rw (x, y)
    (array_answers WrongKind (both c.args.scale) counts (prefix_value c.args.depth_left c.args.bytes.now) _ (opened _ _ _ c.in_ok-inside.ensures c.if-depth_left-eq0.false _ _ _ _ _ c.in_ok-x.ensures.pair) (λ x. x) counts (Ok (plain_pair _ _ _, c.in_ok-x.rest))
    (plain_ends c.args.scale (c.args.depth_left - 1) _ _ (omega (arith, c.if-inside-lt2.false)) counts _ _ _ (rw c.if-not-more.true at c.in_ok-x.ensures.pair)))

pub returns-clause-reads : goal.returns-clause-reads
returns-clause-reads c = λ counts.
    let x : to_z w64 (of_z w64 c.in_ok-x.x) ≡ c.in_ok-x.x = omega (arith, ints, c.in_ok-x.ensures.x, c.requires) in
    let y : to_z w64 (of_z w64 c.in_ok-x.y) ≡ c.in_ok-x.y = omega (arith, ints, c.in_ok-x.ensures.y, c.requires) in
    rw (x, y)
    (array_answers WrongKind (both c.args.scale) counts (prefix_value c.args.depth_left c.args.bytes.now) _ (opened _ _ _ c.in_ok-inside.ensures c.if-depth_left-eq0.false _ _ _ _ _ c.in_ok-x.ensures.pair) (λ x. x) counts (Ok (plain_pair _ _ _, c.in-Ok.end))
    (plain_goes_on c.args.scale (c.args.depth_left - 1) _ _ (omega (arith, c.if-inside-lt2.false)) counts _ _ _ (rw c.if-not-more.false at c.in_ok-x.ensures.pair) _ _ c.in-Ok.ensures.1))
