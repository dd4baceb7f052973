use Rattle.std.proofs.Common.{arith}
use Rattle.json_value.proofs.PlainLanes.{few, lanes_passed}
use Rattle.json_value.proofs.plain_bytes.after_lanes.Goals as goal

pub split_at-requires : goal.split_at-requires
split_at-requires c = few c.args.bytes.now c.args.bytes.now c.plain_lanes.result (omega (arith, c.if-bytes-lt-LANES.false)) (rw c.first_lanes.ensures at c.plain_lanes.ensures)

pub returns-clause-passes : goal.returns-clause-passes
returns-clause-passes c =
    lanes_passed c.args.bytes.now c.split_at.result.1.now c.plain_lanes.result (omega (arith, c.if-bytes-lt-LANES.false)) (rw c.first_lanes.ensures at c.plain_lanes.ensures) c.split_at.ensures.back
