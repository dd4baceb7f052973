use Rattle.std.proofs.Common.{◌≡◌, arith, sym}
use Rattle.std.proofs.lemmas.Result.{err_from_is_err_and}
use Rattle.std.proofs.lemmas.Int.{ints}
use mir.Syntax.{w64}
use mir.Val.{to_z, of_z}
use Rattle.geojson_model.proofs.PositionParts as part
use Rattle.geojson_model.proofs.positions.two_numbers_at.Goals as goal

pub returns-in_err-end-in-Comma : goal.returns-in_err-end-in-Comma
returns-in_err-end-in-Comma c =
    let p = err_from_is_err_and c.from_residual.result c.from_residual.ensures.1 in
    rw (p.1, p.2) (part.pair_text_stops c.args.exact c.args.depth_left c.args.turns c.args.inside.now (omega (arith, c.if-turns-lt2.false)) c.args.counts.now c.in-Some.x c.in-Some.y c.in-Some.after.now c.in-Some.ensures.pair (sym c.if-is_refused.ensures) (sym c.if-is_refused-2.ensures) _ (rw c.in-Comma.is at c.mark_at-mark.ensures) _ c.in_err-end-in-Comma.ensures)

pub returns-in-Neither : goal.returns-in-Neither
returns-in-Neither c = part.pair_breaks c.args.exact c.args.depth_left c.args.turns c.args.inside.now (omega (arith, c.if-turns-lt2.false)) c.args.counts.now c.in-Some.x c.in-Some.y c.in-Some.after.now c.in-Some.ensures.pair (sym c.if-is_refused.ensures) (sym c.if-is_refused-2.ensures) (rw c.in-Neither.is at c.mark_at-mark.ensures)

pub returns-in-Close : goal.returns-in-Close
returns-in-Close c =
    let x : to_z w64 (of_z w64 c.in-Some.x.value) ≡ c.in-Some.x.value = omega (arith, ints, c.in-Some.ensures.first) in
    let y : to_z w64 (of_z w64 c.in-Some.y.value) ≡ c.in-Some.y.value = omega (arith, ints, c.in-Some.ensures.second) in
    let made = rw (x, y) at c.at.ensures in
    rw (made, c.count_rounded-in-Close.ensures, c.count_rounded.ensures)
    (part.pair_ends c.args.exact c.args.depth_left c.args.turns c.args.inside.now (omega (arith, c.if-turns-lt2.false)) c.args.counts.now c.in-Some.x c.in-Some.y c.in-Some.after.now c.in-Some.ensures.pair (sym c.if-is_refused.ensures) (sym c.if-is_refused-2.ensures) _ (rw c.in-Close.is at c.mark_at-mark.ensures))

pub returns-in_ok-end-in-Comma : goal.returns-in_ok-end-in-Comma
returns-in_ok-end-in-Comma c =
    let x : to_z w64 (of_z w64 c.in-Some.x.value) ≡ c.in-Some.x.value = omega (arith, ints, c.in-Some.ensures.first) in
    let y : to_z w64 (of_z w64 c.in-Some.y.value) ≡ c.in-Some.y.value = omega (arith, ints, c.in-Some.ensures.second) in
    let made = rw (x, y) at c.at-in-Comma.ensures in
    rw (made, c.count_extra.ensures, c.count_rounded-in-Comma-2.ensures, c.count_rounded-in-Comma.ensures)
    (part.pair_goes_on c.args.exact c.args.depth_left c.args.turns c.args.inside.now (omega (arith, c.if-turns-lt2.false)) c.args.counts.now c.in-Some.x c.in-Some.y c.in-Some.after.now c.in-Some.ensures.pair (sym c.if-is_refused.ensures) (sym c.if-is_refused-2.ensures) _ (rw c.in-Comma.is at c.mark_at-mark.ensures) _ _ c.in_ok-end-in-Comma.ensures.1)
