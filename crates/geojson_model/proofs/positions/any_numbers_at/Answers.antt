use Rattle.std.proofs.Common.{◌≡◌, ◌<◌, arith}
use Rattle.std.proofs.lemmas.Result.{err_from_is_err_and}
use Rattle.std.proofs.lemmas.Int.{ints}
use mir.Syntax.{w64}
use mir.Val.{to_z, of_z}
use Rattle.std.specs.Str.{is_utf8}
use Rattle.json_value.specs.Reading.{value_at}
use Rattle.geojson_model.proofs.PositionParts as part
use Rattle.geojson_model.proofs.positions.any_numbers_at.Goals as goal

pub returns-in-Err-NoValue : goal.returns-in-Err-NoValue
returns-in-Err-NoValue c =
    let some : 0 < c.args.turns = omega (arith, c.if-turns-eq0.false) in
    part.no_first c.args.exact (value_at is_utf8 c.args.depth_left) c.args.turns c.args.inside.now some c.args.counts.now (rw (c.in-Err-NoValue.field-0-is, c.skip-first.ensures) at c.in-Err-NoValue.ensures.answers)

pub returns-in_err-following-in-Err-Fault : goal.returns-in_err-following-in-Err-Fault
returns-in_err-following-in-Err-Fault c =
    let p = err_from_is_err_and c.from_residual.result c.from_residual.ensures.1 in
    let some : 0 < c.args.turns = omega (arith, c.if-turns-eq0.false) in
    rw (p.1, p.2) (part.first_text_stops c.args.exact (value_at is_utf8 c.args.depth_left) c.args.turns c.args.inside.now some c.args.counts.now _ (rw c.skip-first.ensures at c.in_err-following-in-Err-Fault.ensures))

pub returns-in-Neither : goal.returns-in-Neither
returns-in-Neither c =
    let some : 0 < c.args.turns = omega (arith, c.if-turns-eq0.false) in
    part.element_breaks c.args.exact (value_at is_utf8 c.args.depth_left) c.args.turns c.args.inside.now some c.args.counts.now _ _ (rw c.skip-first.ensures at c.in_ok-following-in-Err-Fault.ensures).1 (rw c.in-Neither.is at c.mark_at-mark.ensures)

pub returns-in-Close : goal.returns-in-Close
returns-in-Close c =
    let some : 0 < c.args.turns = omega (arith, c.if-turns-eq0.false) in
    part.lone_element c.args.exact (value_at is_utf8 c.args.depth_left) c.args.turns c.args.inside.now some c.args.counts.now _ _ _ (rw c.skip-first.ensures at c.in_ok-following-in-Err-Fault.ensures).1 (rw c.in-Close.is at c.mark_at-mark.ensures)

pub returns-in-Comma : goal.returns-in-Comma
returns-in-Comma c =
    let some : 0 < c.args.turns = omega (arith, c.if-turns-eq0.false) in
    let found = (rw c.skip-first.ensures at c.in_ok-following-in-Err-Fault.ensures).1 in
    let wrong = rw (c.in-Err-Fault.field-0-is, c.skip-first.ensures) at c.in-Err-Fault.ensures.answers in
    part.first_fault c.args.exact (value_at is_utf8 c.args.depth_left) c.args.turns c.args.inside.now some c.args.counts.now _ _ _ c.in-Err-Fault.kind found (rw c.in-Comma.is at c.mark_at-mark.ensures) (wrong _ _ found)

pub returns-in-Neither-next : goal.returns-in-Neither-next
returns-in-Neither-next c =
    let some : 0 < c.args.turns = omega (arith, c.if-turns-eq0.false) in
    let one = rw c.skip-first.ensures at c.in-Ok.ensures.answers in
    part.element_breaks c.args.exact (value_at is_utf8 c.args.depth_left) c.args.turns c.args.inside.now some c.args.counts.now one.value _ one.prefix_is (rw c.in-Neither-next.is at c.mark_at-next.ensures)

pub returns-in-Close-next : goal.returns-in-Close-next
returns-in-Close-next c =
    let some : 0 < c.args.turns = omega (arith, c.if-turns-eq0.false) in
    let one = rw c.skip-first.ensures at c.in-Ok.ensures.answers in
    part.lone_element c.args.exact (value_at is_utf8 c.args.depth_left) c.args.turns c.args.inside.now some c.args.counts.now one.value _ _ one.prefix_is (rw c.in-Close-next.is at c.mark_at-next.ensures)

pub returns-in-Comma-next : goal.returns-in-Comma-next
returns-in-Comma-next c =
    let x : to_z w64 (of_z w64 c.in-Ok.x) ≡ c.in-Ok.x = omega (arith, ints, c.in-Ok.ensures.within) in
    let some : 0 < c.args.turns = omega (arith, c.if-turns-eq0.false) in
    let one = rw c.skip-first.ensures at c.in-Ok.ensures.answers in
    part.by_second c.args.exact (value_at is_utf8 c.args.depth_left) c.args.turns c.args.inside.now some c.args.counts.now c.in-Ok.x _ _ one _ (rw c.in-Comma-next.is at c.mark_at-next.ensures) _ c.second_at.result (rw x at c.second_at.ensures)
