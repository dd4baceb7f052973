use Rattle.std.proofs.Common.{◌≡◌, take}
use Rattle.std.specs.Prelude.{sum_by}
use Rattle.byte_ends.specs.Ends.{saturated}
use Rattle.geojson_types.specs.Nesting.{nesting}
use Rattle.reports.specs.Positions.{shape_length}
use Rattle.reports.proofs.positions.+shape_positions.Given as goal

abbrev pub decreases-shape_positions : goal.decreases-shape_positions
decreases-shape_positions l = nesting l.shape.now

abbrev pub invariant-shapes : goal.invariant-shapes
invariant-shapes l = l.count ≡ saturated (sum_by (shape_length l.topology) (take l.shape-index l.shape-items))
