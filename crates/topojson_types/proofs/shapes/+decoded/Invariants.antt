use Rattle.geojson_types.specs.Nesting.{nesting}
use Rattle.topojson_types.proofs.Decoded.{SoFar}
use Rattle.topojson_types.proofs.shapes.+decoded.Given as goal

abbrev pub decreases-decoded : goal.decreases-decoded
decreases-decoded l = nesting l.shape.now

abbrev pub invariant-members : goal.invariant-members
invariant-members l = SoFar l.topology l.member-items l.member-index l.shapes.items
