use Rattle.json_reading.proofs.PlainStrings.{prefix_passed}
use Rattle.json_reading.proofs.checked_strings.after_simple.Goals as goal

pub returns : goal.returns
returns c = prefix_passed c.args.bytes.now c.simple_lanes-simple.result (rw c.first_lanes.ensures at c.simple_lanes-simple.ensures) c.split_at.result.1.now c.split_at.ensures.back
