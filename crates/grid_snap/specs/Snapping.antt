-- Layers whose positions are snapped to a grid over all of them.
use Rattle.std.specs.Prelude.{List, map, if◌then◌else◌}
use Rattle.geojson_types.specs.declared.layer.Layer.{Layer}
use Rattle.geometry.specs.Lists.{joined}
use Rattle.geojson_types.specs.Moving.{moved_feature}
use Rattle.geojson_types.specs.Places.{features_points}
use Rattle.geometry.specs.Points.{Point}
use Rattle.grid_snap.specs.Axes.{Axes, covers, snapped}

-- the positions of all layers, those of Points too
abbrev pub layers_points : List Layer → List Point
layers_points ls = joined (map (λ l. features_points l.features) ls)

-- each position of the layer snapped; identifiers, properties and order stay
abbrev pub snapped_layer : Axes → Layer → Layer
snapped_layer g l = record { features = map (moved_feature (snapped g)) l.features }

-- a position that the grid doesn't cover stays where it is
abbrev pub snapped_if_covered : Axes → Point → Point
snapped_if_covered g p = if covers g p then snapped g p else p
