-- The transform of a grid.
use Rattle.std.specs.Prelude.{pos}
use Rattle.decimal_text.specs.Scaling.{units_text}
use Rattle.grid_snap.specs.Axes.{Axes}
use Rattle.topojson_types.specs.declared.transform.Transform.{Transform}
use Rattle.geometry.specs.Units.{unit_places}

-- the least decimals of its steps, and of its first coordinates
unfoldable pub transform_of : Axes → Transform
transform_of g = record {
  scale = (units_text (pos g.x.step) unit_places, units_text (pos g.y.step) unit_places);
  translate = (units_text g.x.first unit_places, units_text g.y.first unit_places);
}
