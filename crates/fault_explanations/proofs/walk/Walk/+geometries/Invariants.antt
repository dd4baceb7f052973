use Rattle.std.proofs.Common.{◌+◌, ◌*◌}
use Rattle.fault_explanations.proofs.walk.Walk.+geometries.Given as goal

abbrev pub decreases-typed_geometry : goal.decreases-typed_geometry
decreases-typed_geometry l = 2 * l.depth_left + 1

abbrev pub decreases-collection : goal.decreases-collection
decreases-collection l = 2 * l.depth_left
