-- The lines and rings of named layers, in reading order.
use Rattle.std.specs.Prelude.{ℕ, Bool, List, map}
use Rattle.geojson_types.specs.declared.layer.Layer.{Layer}
use Rattle.geometry.specs.Lists.{joined}
use Rattle.geometry.specs.Points.{Point}
pub use Rattle.linework.specs.Outlines.{features_lines_and_rings}

-- layers with their names
abbrev pub Named : Type 0
Named = List (List ℕ × Layer)

abbrev pub names_of : Named → List (List ℕ)
names_of ls = map (λ l. l.0) ls

abbrev pub layers_of : Named → List Layer
layers_of ls = map (λ l. l.1) ls

-- the open lines (false) and rings (true) of all layers
abbrev pub named_lines_and_rings : Named → List (Bool × List Point)
named_lines_and_rings ls = joined (map (λ l. features_lines_and_rings l.1.features) ls)
