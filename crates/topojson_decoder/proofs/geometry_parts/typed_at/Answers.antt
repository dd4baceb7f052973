use Rattle.topojson_meaning.specs.Shapes.{part}
use Rattle.topojson_decoder.proofs.geometry_parts.typed_at.Goals as goal

pub returns-in-Places : goal.returns-in-Places
unfolding part
returns-in-Places c = rw c.in-Places.is c.places_shape_at.ensures

pub returns-in-Arcs : goal.returns-in-Arcs
unfolding part
returns-in-Arcs c = rw c.in-Arcs.is c.arcs_shape_at.ensures
