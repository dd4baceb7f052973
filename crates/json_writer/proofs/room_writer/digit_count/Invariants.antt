use Rattle.std.proofs.Common.{◌≡◌, ◌+◌, decimal, length}
use Rattle.json_writer.proofs.room_writer.digit_count.Given as goal

abbrev pub invariant-loop-left : goal.invariant-loop-left
invariant-loop-left l = l.behind + length (decimal l.left) ≡ length (decimal l.number)

abbrev pub decreases-loop-left : goal.decreases-loop-left
decreases-loop-left l = l.left
