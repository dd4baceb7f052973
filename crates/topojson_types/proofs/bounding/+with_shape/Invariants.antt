use Rattle.geojson_types.specs.Nesting.{nesting}
use Rattle.topojson_types.specs.Validity.{places}
use Rattle.topojson_types.proofs.Boxes.{Left}
use Rattle.topojson_types.proofs.bounding.+with_shape.Given as goal

abbrev pub decreases-with_shape : goal.decreases-with_shape
decreases-with_shape l = nesting l.shape.now

abbrev pub invariant-shapes : goal.invariant-shapes
invariant-shapes l = Left places l.shape-items l.shape-index l.fn.bounds l.all
