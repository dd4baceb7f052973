-- How deep arrays and objects may nest in what is read.
use Rattle.std.specs.Prelude.{ℕ, ◌-◌}

-- in the text of a layer
abbrev pub layer_depth : ℕ
layer_depth = 127

-- in the text of a topology
abbrev pub topology_depth : ℕ
topology_depth = 255

-- in the properties of a feature, which stand inside of a layer or of a topology
abbrev pub properties_depth : ℕ
properties_depth = topology_depth - 1
