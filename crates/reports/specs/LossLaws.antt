-- What is true of the features that are lost.
use Rattle.std.specs.Prelude.{◌≡◌, ℕ, suc, ◌+◌, List, [], ◌∷◌}
use Rattle.std.specs.List.{slice_get}
use Rattle.geometry.specs.declared.address.Cause.{Cause}
use Rattle.geometry.specs.DropCauses.{dropped_of_layers}
use Rattle.geometry.specs.Paths.{Placed}
use Rattle.topojson_types.specs.declared.object.TopoObject.{TopoObject}
use Rattle.reports.specs.Losses.{nothing_in, feature_in, one_if, lost_count}

-- one if lines or rings of the feature that has these numbers are left out, and nothing is left of it
abbrev pub lost_of_feature : List (List ℕ × TopoObject) → ℕ → ℕ → List (Placed Cause) → ℕ
lost_of_feature objects layer feature [] = 0
lost_of_feature objects layer feature (o ∷ os) = one_if (nothing_in (feature_in (slice_get objects layer) feature))

-- how many so of the features of a layer, of which the first has this number, by what is left out of each
abbrev pub lost_of_layer : List (List ℕ × TopoObject) → ℕ → ℕ → List (List (Placed Cause)) → ℕ
lost_of_layer objects layer feature [] = 0
lost_of_layer objects layer feature (os ∷ oss) = lost_of_feature objects layer feature os + lost_of_layer objects layer (suc feature) oss

-- of the features of layers, of which the first has this number
abbrev pub lost_of_layers : List (List ℕ × TopoObject) → ℕ → List (List (List (Placed Cause))) → ℕ
lost_of_layers objects layer [] = 0
lost_of_layers objects layer (osss ∷ more) = lost_of_layer objects layer 0 osss + lost_of_layers objects (suc layer) more

-- in reading order each feature that is lost counts once, however many of its lines and rings are left out
abbrev pub EachLostCountsOnce : Type 0
EachLostCountsOnce = (objects : List (List ℕ × TopoObject)) (causes : List (List (List (Placed Cause)))) → lost_count objects (dropped_of_layers 0 causes) ≡ lost_of_layers objects 0 causes
