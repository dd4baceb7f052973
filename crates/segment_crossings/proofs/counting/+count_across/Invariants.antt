use Rattle.std.proofs.Common.{◌+◌, ◌-◌}
use Rattle.segment_crossings.proofs.counting.+count_across.Given as goal

abbrev pub decreases-count_across : goal.decreases-count_across
decreases-count_across l = (l.node.now.run.end - l.node.now.run.first) + (l.other.now.run.end - l.other.now.run.first)
