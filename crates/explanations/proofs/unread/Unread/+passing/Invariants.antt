use Rattle.std.proofs.Common.{◌+◌, ◌*◌}
use Rattle.explanations.proofs.unread.Unread.+passing.Given as goal

abbrev pub decreases-pass : goal.decreases-pass
decreases-pass l = 3 * l.depth_left

abbrev pub decreases-pass_members : goal.decreases-pass_members
decreases-pass_members l = 3 * l.depth_left + 2

abbrev pub decreases-pass_member : goal.decreases-pass_member
decreases-pass_member l = 3 * l.depth_left + 1

abbrev pub decreases-pass_elements : goal.decreases-pass_elements
decreases-pass_elements l = 3 * l.depth_left + 1

abbrev pub decreases-pass_early : goal.decreases-pass_early
decreases-pass_early l = 3 * l.depth_left + 1
