use Rattle.std.proofs.Common.{sym, arith}
use Rattle.json_value.proofs.PlainLanes.{split}
use Rattle.json_reading.proofs.PlainStrings.{one_passed, string_ends}
use Rattle.json_reading.proofs.checked_strings.plain_at.Goals as goal

pub returns-then-first-eq34 : goal.returns-then-first-eq34
returns-then-first-eq34 c =
    let rest = c.after_simple.result.now in
    string_ends c.args.inside.now c.loop-first.rest.now rest _ _ c.loop-first.invariant c.after_simple.ensures (split rest c.in-len1-up.len_at_least) _ _ c.if-first-eq34.true (omega arith) c.split_at.ensures.front

pub loop-first-preserved : goal.loop-first-preserved
loop-first-preserved c =
    let rest = c.after_simple.result.now in
    one_passed c.args.inside.now c.loop-first.rest.now rest _ _ c.loop-first.invariant c.after_simple.ensures (split rest c.in-len1-up.len_at_least) (sym c.if-not-is_simple.ensures)
