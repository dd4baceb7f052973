use Rattle.std.proofs.Common.{◌-◌}
use Rattle.segment_crossings.proofs.tree.+node_over.Given as goal

abbrev pub decreases-node_over : goal.decreases-node_over
decreases-node_over l = l.run.end - l.run.first
