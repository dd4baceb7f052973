use Rattle.std.proofs.Common.{◌-◌}
use Rattle.segment_crossings.proofs.counting.+count_under.Given as goal

abbrev pub decreases-count_under : goal.decreases-count_under
decreases-count_under l = l.node.now.run.end - l.node.now.run.first
