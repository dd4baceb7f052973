-- What is true of the lines of shapes and of the linework of layers.
use Rattle.std.specs.Prelude.{◌≡◌, List, map}
use Rattle.geojson_types.specs.declared.layer.Layer.{Layer}
use Rattle.geojson_types.specs.Features.{Shape}
use Rattle.geometry.specs.Lists.{joined}
use Rattle.geometry.specs.Paths.{placed_lines_and_rings}
use Rattle.geojson_types.specs.Places.{features_points}
use Rattle.geometry.specs.Points.{Point}
use Rattle.geometry.specs.Pruning.{lines_and_rings}
use Rattle.junctions.specs.declared.stroke.Stroke.{Stroke}
use Rattle.junctions.specs.Among.{In}
use Rattle.linework.specs.Linework.{linework}

-- the lines and rings of a shape with the ways to them are its lines and rings, in the same order
abbrev pub PlacedAreAll : Type 0
PlacedAreAll = (s : Shape) → map (λ x. x.part) (placed_lines_and_rings s) ≡ lines_and_rings s

-- the positions of the layers
abbrev pub layers_points : List Layer → List Point
layers_points layers = joined (map (λ l. features_points l.features) layers)

-- each position of the linework is a position of the layers
abbrev pub NoneIsNew : Type 0
NoneIsNew = (layers : List Layer) (s : Stroke) (p : Point) → In s (linework layers) → In p s.positions → In p (layers_points layers)
