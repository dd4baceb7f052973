use Rattle.geojson_types.specs.Places.{shape_points}
use Rattle.grid_snap.proofs.Widening.{Left}
use Rattle.grid_snap.proofs.bounds.+with_shape.Given as goal

abbrev pub decreases-with_shape : goal.decreases-with_shape
decreases-with_shape l = goal.size-with_shape l

abbrev pub invariant-shapes : goal.invariant-shapes
invariant-shapes l = Left shape_points l.shape-items l.shape-index l.fn.bounds l.all
