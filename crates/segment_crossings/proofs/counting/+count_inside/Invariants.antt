use Rattle.std.proofs.Common.{◌-◌}
use Rattle.segment_crossings.proofs.counting.+count_inside.Given as goal

abbrev pub decreases-count_inside : goal.decreases-count_inside
decreases-count_inside l = l.node.now.run.end - l.node.now.run.first
