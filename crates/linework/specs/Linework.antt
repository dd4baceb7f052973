-- The linework of layers: their lines and rings in reading order, in which equal neighbours count as one position.
use Rattle.std.specs.Prelude.{ℕ, suc, Bool, List, [], ◌∷◌, ◌++◌, map, Option, None, Some}
use Rattle.geometry.specs.Lists.{joined}
use Rattle.geometry.specs.Points.{Point}
use Rattle.geojson_types.specs.Features.{Shape, Featured}
use Rattle.geometry.specs.Paths.{Placed, placed_lines_and_rings}
use Rattle.geometry.specs.Addresses.{feature_address}
use Rattle.geometry.specs.declared.address.Address.{Address}
use Rattle.geometry.specs.declared.address.Dropped.{Dropped}
use Rattle.geojson_types.specs.declared.layer.Layer.{Layer}
use Rattle.junctions.specs.declared.stroke.Stroke.{Stroke}
use Rattle.junctions.specs.Gathering.{Standing, collapsed_of}
use Rattle.linework.specs.Outlines.{cleaned, features_lines_and_rings, linework_of}

-- the lines and rings of all layers that have enough positions
unfoldable pub linework : List Layer → List Stroke
linework layers = linework_of (joined (map (λ l. features_lines_and_rings l.features) layers))

-- what stands inside a shape at this address
abbrev pub line_or_ring_at : Address → Placed (Bool × List Point) → Standing
line_or_ring_at a s = record { address = record { layer = a.layer; feature = a.feature; path = a.path ++ s.path }; line_or_ring = cleaned s.part.0 s.part.1 }

-- the lines and rings of a shape that may be null
abbrev pub option_placed : Option Shape → List (Placed (Bool × List Point))
option_placed None = []
option_placed (Some s) = placed_lines_and_rings s

-- the lines and rings of a feature, with their addresses
abbrev pub feature_lines_and_rings : ℕ → ℕ → Featured → List Standing
feature_lines_and_rings layer feature f = map (line_or_ring_at (feature_address layer feature)) (option_placed f.shape)

-- the lines and rings of the features of a layer, of which the first has this number
abbrev pub lines_and_rings_of_layer : ℕ → ℕ → List Featured → List Standing
lines_and_rings_of_layer layer feature [] = []
lines_and_rings_of_layer layer feature (f ∷ fs) = feature_lines_and_rings layer feature f ++ lines_and_rings_of_layer layer (suc feature) fs

-- the lines and rings of the layers, of which the first has this number
abbrev pub lines_and_rings_of_layers : ℕ → List Layer → List Standing
lines_and_rings_of_layers layer [] = []
lines_and_rings_of_layers layer (l ∷ ls) = lines_and_rings_of_layer layer 0 l.features ++ lines_and_rings_of_layers (suc layer) ls

-- the addresses of those that have too few
unfoldable pub collapsed : List Layer → List Dropped
collapsed layers = collapsed_of (lines_and_rings_of_layers 0 layers)
