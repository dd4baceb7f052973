use Rattle.std.proofs.Common.{◌+◌, ◌*◌}
use Rattle.fault_explanations.proofs.walk.Walk.+shapes.Given as goal

abbrev pub decreases-shape : goal.decreases-shape
decreases-shape l = 2 * l.depth_left + 1

abbrev pub decreases-shapes : goal.decreases-shapes
decreases-shapes l = 2 * l.depth_left
