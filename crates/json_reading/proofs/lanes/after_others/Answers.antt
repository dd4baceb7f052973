use Rattle.std.proofs.Common.{◌≤◌, length, arith}
use Rattle.json_reading.proofs.FoundFirst.{others_passed}
use Rattle.json_reading.proofs.LaneParts as lane
use Rattle.json_reading.proofs.lanes.after_others.Goals as goal

pub returns-clause-passes : goal.returns-clause-passes
returns-clause-passes c =
    let bytes = c.args.bytes.now in
    let enough : 16 ≤ length bytes = omega (arith, c.if-bytes-lt-LANES.false) in
    let others = rw c.first_lanes.ensures at c.lanes_before.ensures in
    let few : c.lanes_before.result ≤ length bytes = omega (arith, lane.within bytes enough c.args.byte c.lanes_before.result others, enough) in
    rw c.split_at.ensures.back (others_passed c.args.byte c.lanes_before.result bytes few (λ k lt. lane.other bytes enough c.args.byte c.lanes_before.result others k lt))
