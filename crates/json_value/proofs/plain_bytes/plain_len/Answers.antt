use Rattle.std.proofs.Common.{sym, arith}
use Rattle.json_value.proofs.PlainLanes.{one_passed, split, stops}
use Rattle.json_value.proofs.plain_bytes.plain_len.Goals as goal

pub returns-then-not-is_plain : goal.returns-then-not-is_plain
returns-then-not-is_plain c =
    let found = c.after_lanes.result.now in
    stops c.args.bytes.now c.loop-first.rest.now found _ _ c.loop-first.invariant.0 c.after_lanes.ensures.passes (split found c.in-len1-up.len_at_least) (sym c.if-not-is_plain.ensures)

pub loop-first-preserved : goal.loop-first-preserved
loop-first-preserved c =
    let found = c.after_lanes.result.now in
    (one_passed c.args.bytes.now c.loop-first.rest.now found _ _ c.loop-first.invariant.0 c.after_lanes.ensures.passes (split found c.in-len1-up.len_at_least) (sym c.if-not-is_plain.ensures), omega arith)
