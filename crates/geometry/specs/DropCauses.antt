-- Which lines and rings of shapes are left out, where they stand, and why.
use Rattle.std.specs.Prelude.{ℕ, suc, Bool, true, false, List, [], ◌∷◌, ◌++◌, map, Option, None, Some}
use Rattle.geometry.specs.declared.address.Cause.{Cause}
use Rattle.geometry.specs.declared.address.Cause.TheVariants.{Outer}
use Rattle.geometry.specs.declared.address.Dropped.{Dropped}
use Rattle.geometry.specs.declared.shape.Geometry.{Geometry, fold-Geometry}
use Rattle.geometry.specs.declared.shape.Geometry.TheOpen.{Geometry-F}
use Rattle.geometry.specs.Paths.{Placed, alone, of_parts}

-- a line or ring that is no part of another
abbrev pub here : Option Cause → List (Placed Cause)
here None = []
here (Some c) = alone c

-- a ring after the outer one is left out for its own cause, or else because the outer one is
abbrev pub inner_cause : Option Cause → Option Cause → Option Cause
inner_cause None hole = hole
inner_cause (Some c) None = Some Outer
inner_cause (Some c) (Some d) = Some d

-- of the rings of a polygon
abbrev pub area_drop_causes : {L : Type 0} → (L → Option Cause) → List L → List (Placed Cause)
area_drop_causes why [] = []
area_drop_causes why (outer ∷ holes) = of_parts 0 (here (why outer) ∷ map (λ h. here (inner_cause (why outer) (why h))) holes)

-- one level; `why` says of an open line (false) or a ring (true) why it is left out, if it is
abbrev pub drop_causes_step : {P L : Type 0} → (Bool → L → Option Cause) → Geometry-F P L L (List (Placed Cause)) → List (Placed Cause)
drop_causes_step why (Geometry-F.Point p) = []
drop_causes_step why (Geometry-F.MultiPoint ps) = []
drop_causes_step why (Geometry-F.Line l) = here (why false l)
drop_causes_step why (Geometry-F.Lines ls) = of_parts 0 (map (λ l. here (why false l)) ls)
drop_causes_step why (Geometry-F.Area rs) = area_drop_causes (why true) rs
drop_causes_step why (Geometry-F.Areas areas) = of_parts 0 (map (area_drop_causes (why true)) areas)
drop_causes_step why (Geometry-F.Group oss) = of_parts 0 oss

-- the lines and rings of a shape that are left out, in reading order
unfoldable pub drop_causes : {P L : Type 0} → (Bool → L → Option Cause) → Geometry P L L → List (Placed Cause)
drop_causes {P} {L} why = fold-Geometry P L L (List (Placed Cause)) (drop_causes_step why)

-- the lines and rings that are left out of one feature, with the numbers of its layer and of it
abbrev pub dropped_in : ℕ → ℕ → List (Placed Cause) → List Dropped
dropped_in layer feature os = map (λ o. record { address = record { layer = layer; feature = feature; path = o.path }; cause = o.part }) os

-- the lines and rings that are left out of the features of a layer, of which the first has this number
abbrev pub dropped_of_layer : ℕ → ℕ → List (List (Placed Cause)) → List Dropped
dropped_of_layer layer feature [] = []
dropped_of_layer layer feature (os ∷ oss) = dropped_in layer feature os ++ dropped_of_layer layer (suc feature) oss

-- the lines and rings that are left out of the layers, of which the first has this number
abbrev pub dropped_of_layers : ℕ → List (List (List (Placed Cause))) → List Dropped
dropped_of_layers layer [] = []
dropped_of_layers layer (osss ∷ more) = dropped_of_layer layer 0 osss ++ dropped_of_layers (suc layer) more
