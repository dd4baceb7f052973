use Rattle.std.proofs.Common.{◌<◌, arith}
use Rattle.std.proofs.lemmas.Result.{err_from_is_err_and}
use Rattle.std.specs.Str.{is_utf8}
use Rattle.json_value.specs.Reading.{value_at}
use Rattle.topojson_decoder.proofs.PairParts as part
use Rattle.topojson_decoder.proofs.pairs.second_at.Goals as goal

pub returns-in-Err-clause-answers : goal.returns-in-Err-clause-answers
returns-in-Err-clause-answers c = λ counts.
    let some : 0 < c.args.turns = omega (arith, c.if-turns-eq0.false) in
    part.second_stops c.args.scale c.args.x (value_at is_utf8 c.args.depth_left) c.args.turns c.args.bytes.now some counts c.in-Err.stop (rw c.skip.ensures at (c.in-Err.ensures.answers counts))

pub returns-in-Neither-clause-answers : goal.returns-in-Neither-clause-answers
returns-in-Neither-clause-answers c = λ counts.
    let some : 0 < c.args.turns = omega (arith, c.if-turns-eq0.false) in
    part.second_breaks c.args.scale c.args.x (value_at is_utf8 c.args.depth_left) c.args.turns c.args.bytes.now some counts _ _ (rw c.skip.ensures at (c.in-Ok.ensures.answers counts)) (rw c.in-Neither.is at c.mark_at-mark.ensures)

pub returns-in-Close-clause-answers : goal.returns-in-Close-clause-answers
returns-in-Close-clause-answers c = λ counts.
    let some : 0 < c.args.turns = omega (arith, c.if-turns-eq0.false) in
    part.second_ends c.args.scale c.args.x (value_at is_utf8 c.args.depth_left) c.args.turns c.args.bytes.now some counts _ _ (rw c.skip.ensures at (c.in-Ok.ensures.answers counts)) _ (rw c.in-Close.is at c.mark_at-mark.ensures)

pub returns-in_err-end-in-Comma-clause-answers : goal.returns-in_err-end-in-Comma-clause-answers
returns-in_err-end-in-Comma-clause-answers c = λ counts.
    let p = err_from_is_err_and c.from_residual.result c.from_residual.ensures.1 in
    let some : 0 < c.args.turns = omega (arith, c.if-turns-eq0.false) in
    rw (p.1, p.2)
    (part.second_text_stops c.args.scale c.args.x (value_at is_utf8 c.args.depth_left) c.args.turns c.args.bytes.now some counts _ _ (rw c.skip.ensures at (c.in-Ok.ensures.answers counts)) _ (rw c.in-Comma.is at c.mark_at-mark.ensures) _ c.in_err-end-in-Comma.ensures)

pub returns-in_ok-end-in-Comma-clause-answers : goal.returns-in_ok-end-in-Comma-clause-answers
returns-in_ok-end-in-Comma-clause-answers c = λ counts.
    let some : 0 < c.args.turns = omega (arith, c.if-turns-eq0.false) in
    part.second_goes_on c.args.scale c.args.x (value_at is_utf8 c.args.depth_left) c.args.turns c.args.bytes.now some counts _ _ (rw c.skip.ensures at (c.in-Ok.ensures.answers counts)) _ (rw c.in-Comma.is at c.mark_at-mark.ensures) _ _ c.in_ok-end-in-Comma.ensures.1
