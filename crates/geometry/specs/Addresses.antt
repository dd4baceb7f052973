-- Where lines and rings stand.
use Rattle.std.specs.Prelude.{ℕ, [], ◌∷◌, ◌++◌}
use Rattle.geometry.specs.declared.address.Address.{Address}

-- the address of a feature's geometry
abbrev pub feature_address : ℕ → ℕ → Address
feature_address layer feature = record { layer = layer; feature = feature; path = [] }

-- the address of a part of what stands at an address
abbrev pub part_address : Address → ℕ → Address
part_address a i = record { layer = a.layer; feature = a.feature; path = a.path ++ (i ∷ []) }
