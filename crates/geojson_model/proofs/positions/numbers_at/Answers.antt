use Rattle.std.proofs.Common.{◌≡◌, arith}
use Rattle.std.proofs.lemmas.Int.{ints}
use Rattle.std.proofs.lemmas.Result.{err_from_is_err_and}
use mir.Syntax.{w64}
use mir.Val.{to_z, of_z}
use Rattle.geojson_model.proofs.PositionParts as part
use Rattle.geojson_model.proofs.positions.numbers_at.Goals as goal

pub returns : goal.returns
returns c =
    let x : to_z w64 (of_z w64 c.in-Some.x) ≡ c.in-Some.x = omega (arith, ints, c.in-Some.ensures.first) in
    let y : to_z w64 (of_z w64 c.in-Some.y) ≡ c.in-Some.y = omega (arith, ints, c.in-Some.ensures.second) in
    let made = rw (x, y) at c.at-2.ensures in
    rw made
    (part.plain_reads c.args.exact c.args.depth_left c.args.turns c.args.inside.now (omega (arith, c.if-turns-lt2.false)) c.args.counts.now c.in-Some.x c.in-Some.y c.in-Some.rest.now (rw c.if-goes_on.false at c.in-Some.ensures.pair))

pub returns-then-goes_on : goal.returns-then-goes_on
returns-then-goes_on c =
    let x : to_z w64 (of_z w64 c.in-Some.x) ≡ c.in-Some.x = omega (arith, ints, c.in-Some.ensures.first) in
    let y : to_z w64 (of_z w64 c.in-Some.y) ≡ c.in-Some.y = omega (arith, ints, c.in-Some.ensures.second) in
    let made = rw (x, y) at c.at.ensures in
    rw (made, c.count_extra.ensures)
    (part.plain_goes_on c.args.exact c.args.depth_left c.args.turns c.args.inside.now (omega (arith, c.if-turns-lt2.false)) c.args.counts.now c.in-Some.x c.in-Some.y c.in-Some.rest.now (rw c.if-goes_on.true at c.in-Some.ensures.pair) _ _ c.in_ok-end.ensures.1)

pub returns-in_err-end : goal.returns-in_err-end
returns-in_err-end c =
    let p = err_from_is_err_and c.from_residual.result c.from_residual.ensures.1 in
    rw (p.1, p.2)
    (part.plain_text_stops c.args.exact c.args.depth_left c.args.turns c.args.inside.now (omega (arith, c.if-turns-lt2.false)) c.args.counts.now c.in-Some.x c.in-Some.y c.in-Some.rest.now (rw c.if-goes_on.true at c.in-Some.ensures.pair) _ c.in_err-end.ensures)
