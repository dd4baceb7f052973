use Rattle.std.proofs.Common.{◌≡◌, ◌<◌, arith}
use Rattle.std.proofs.lemmas.Int.{ints}
use Rattle.std.proofs.lemmas.Result.{err_from_is_err_and}
use mir.Syntax.{w64}
use mir.Val.{to_z, of_z}
use Rattle.std.specs.Str.{is_utf8}
use Rattle.json_value.specs.Reading.{value_at}
use Rattle.geojson_model.proofs.PositionParts as part
use Rattle.geojson_model.proofs.positions.second_at.Goals as goal

pub returns-in-Err : goal.returns-in-Err
returns-in-Err c =
    let some : 0 < c.args.turns = omega (arith, c.if-turns-eq0.false) in
    part.second_stops c.args.exact c.args.x (value_at is_utf8 c.args.depth_left) c.args.turns c.args.bytes.now some c.args.counts.now c.in-Err.stop (rw c.skip.ensures at c.in-Err.ensures.answers)

pub returns-in-Neither : goal.returns-in-Neither
returns-in-Neither c =
    let some : 0 < c.args.turns = omega (arith, c.if-turns-eq0.false) in
    part.second_breaks c.args.exact c.args.x (value_at is_utf8 c.args.depth_left) c.args.turns c.args.bytes.now some c.args.counts.now _ _ _ (rw c.skip.ensures at c.in-Ok.ensures.answers) (rw c.in-Neither.is at c.mark_at-mark.ensures)

pub returns-in-Close : goal.returns-in-Close
returns-in-Close c =
    let some : 0 < c.args.turns = omega (arith, c.if-turns-eq0.false) in
    let x : to_z w64 (of_z w64 c.args.x) ≡ c.args.x = omega (arith, ints, c.requires) in
    let y : to_z w64 (of_z w64 c.in-Ok.y) ≡ c.in-Ok.y = omega (arith, ints, c.in-Ok.ensures.within) in
    let made = rw (x, y) at c.at.ensures in
    rw made
    (part.second_ends c.args.exact c.args.x (value_at is_utf8 c.args.depth_left) c.args.turns c.args.bytes.now some c.args.counts.now c.in-Ok.y _ _ (rw c.skip.ensures at c.in-Ok.ensures.answers) _ (rw c.in-Close.is at c.mark_at-mark.ensures))

pub returns-in_err-end-in-Comma : goal.returns-in_err-end-in-Comma
returns-in_err-end-in-Comma c =
    let p = err_from_is_err_and c.from_residual.result c.from_residual.ensures.1 in
    let some : 0 < c.args.turns = omega (arith, c.if-turns-eq0.false) in
    rw (p.1, p.2)
    (part.second_text_stops c.args.exact c.args.x (value_at is_utf8 c.args.depth_left) c.args.turns c.args.bytes.now some c.args.counts.now _ _ _ (rw c.skip.ensures at c.in-Ok.ensures.answers) _ (rw c.in-Comma.is at c.mark_at-mark.ensures) _ c.in_err-end-in-Comma.ensures)

pub returns-in_ok-end-in-Comma : goal.returns-in_ok-end-in-Comma
returns-in_ok-end-in-Comma c =
    let some : 0 < c.args.turns = omega (arith, c.if-turns-eq0.false) in
    let x : to_z w64 (of_z w64 c.args.x) ≡ c.args.x = omega (arith, ints, c.requires) in
    let y : to_z w64 (of_z w64 c.in-Ok.y) ≡ c.in-Ok.y = omega (arith, ints, c.in-Ok.ensures.within) in
    let made = rw (x, y) at c.at-in-Comma.ensures in
    rw (made, c.count_extra.ensures)
    (part.second_goes_on c.args.exact c.args.x (value_at is_utf8 c.args.depth_left) c.args.turns c.args.bytes.now some c.args.counts.now c.in-Ok.y _ _ (rw c.skip.ensures at c.in-Ok.ensures.answers) _ (rw c.in-Comma.is at c.mark_at-mark.ensures) _ _ c.in_ok-end-in-Comma.ensures.1)
