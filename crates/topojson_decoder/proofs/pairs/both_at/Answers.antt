use Rattle.std.proofs.Common.{◌<◌, arith}
use Rattle.std.specs.Str.{is_utf8}
use Rattle.json_value.specs.Reading.{value_at}
use Rattle.topojson_decoder.proofs.PairParts as part
use Rattle.topojson_decoder.proofs.pairs.both_at.Goals as goal

pub returns-in-Err-clause-answers : goal.returns-in-Err-clause-answers
returns-in-Err-clause-answers c = λ counts.
    let some : 0 < c.args.turns = omega (arith, c.if-turns-eq0.false) in
    part.first_number_stops c.args.scale (value_at is_utf8 c.args.depth_left) c.args.turns c.args.inside.now some counts c.in-Err.stop (rw c.skip.ensures at (c.in-Err.ensures.answers counts))

pub returns-in-Neither-clause-answers : goal.returns-in-Neither-clause-answers
returns-in-Neither-clause-answers c = λ counts.
    let some : 0 < c.args.turns = omega (arith, c.if-turns-eq0.false) in
    part.number_breaks c.args.scale (value_at is_utf8 c.args.depth_left) c.args.turns c.args.inside.now some counts _ _ (rw c.skip.ensures at (c.in-Ok.ensures.answers counts)) (rw c.in-Neither.is at c.mark_at-mark.ensures)

pub returns-in-Close-clause-answers : goal.returns-in-Close-clause-answers
returns-in-Close-clause-answers c = λ counts.
    let some : 0 < c.args.turns = omega (arith, c.if-turns-eq0.false) in
    part.lone_number c.args.scale (value_at is_utf8 c.args.depth_left) c.args.turns c.args.inside.now some counts _ _ (rw c.skip.ensures at (c.in-Ok.ensures.answers counts)) _ (rw c.in-Close.is at c.mark_at-mark.ensures)

pub returns-in-Comma-clause-answers : goal.returns-in-Comma-clause-answers
returns-in-Comma-clause-answers c = λ counts.
    let some : 0 < c.args.turns = omega (arith, c.if-turns-eq0.false) in
    part.by_second c.args.scale (value_at is_utf8 c.args.depth_left) c.args.turns c.args.inside.now some counts _ _ (rw c.skip.ensures at (c.in-Ok.ensures.answers counts)) _ (rw c.in-Comma.is at c.mark_at-mark.ensures) c.second_at.result (c.second_at.ensures.answers counts)
