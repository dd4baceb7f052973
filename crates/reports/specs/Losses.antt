-- The features that are lost: a line or a ring of them isn't written, and nothing of their geometry is left.
use Rattle.std.specs.Prelude.{ℕ, ℤ, ◌+◌, ◌==◌, ◌&&◌, not, Bool, true, false, List, [], ◌∷◌, Option, None, Some}
use Rattle.std.specs.List.{list_all, slice_get}
use Rattle.byte_ends.specs.Ends.{saturated}
use Rattle.geometry.specs.Points.{Point}
use Rattle.geometry.specs.declared.address.Dropped.{Dropped}
use Rattle.geometry.specs.declared.shape.Geometry.{fold-Geometry}
use Rattle.geometry.specs.declared.shape.Geometry.TheOpen.{Geometry-F}
use Rattle.topojson_types.specs.Topologies.{TopoShape, object_features}
use Rattle.topojson_types.specs.declared.feature.TopoFeature.{TopoFeature}
use Rattle.topojson_types.specs.declared.object.TopoObject.{TopoObject}

-- ---- a shape

-- one level, with the answers for the shapes of a group in their place
abbrev pub hollow_step : Geometry-F Point (List ℤ) (List ℤ) Bool → Bool
hollow_step (Geometry-F.Point p) = false
hollow_step (Geometry-F.MultiPoint ps) = false
hollow_step (Geometry-F.Line l) = false
hollow_step (Geometry-F.Lines ls) = false
hollow_step (Geometry-F.Area rs) = false
hollow_step (Geometry-F.Areas areas) = false
hollow_step (Geometry-F.Group bs) = list_all (λ b. b) bs

-- there is nothing in a shape: it is a GeometryCollection, and so is all in it
unfoldable pub is_hollow : TopoShape → Bool
is_hollow = fold-Geometry Point (List ℤ) (List ℤ) Bool hollow_step

-- a geometry that is null or has nothing in it
abbrev pub has_nothing : Option TopoShape → Bool
has_nothing None = true
has_nothing (Some shape) = is_hollow shape

-- ---- a feature

abbrev pub nothing_in : Option TopoFeature → Bool
nothing_in None = false
nothing_in (Some f) = has_nothing f.shape

-- the feature of an object that has this number
abbrev pub feature_in : Option (List ℕ × TopoObject) → ℕ → Option TopoFeature
feature_in None feature = None
feature_in (Some o) feature = slice_get (object_features o.1) feature

-- of the feature that a line or a ring was of, by the numbers of its object and of it, nothing is left
abbrev pub is_lost : List (List ℕ × TopoObject) → Dropped → Bool
is_lost objects d = nothing_in (feature_in (slice_get objects d.address.layer) d.address.feature)

-- ---- how many

-- both are of one feature
abbrev pub are_of_one : Dropped → Dropped → Bool
are_of_one d e = (d.address.layer == e.address.layer) && (d.address.feature == e.address.feature)

-- the next one, if there is one, is of another feature
abbrev pub ends_feature : Dropped → List Dropped → Bool
ends_feature d [] = true
ends_feature d (e ∷ ds) = not (are_of_one d e)

abbrev pub one_if : Bool → ℕ
one_if true = 1
one_if false = 0

-- The features that lost these lines and rings, and of which nothing is left in these objects. Lines and rings of one feature stand beside each
-- other, as in reading order, and the last of them stands for it.
abbrev pub lost_count : List (List ℕ × TopoObject) → List Dropped → ℕ
lost_count objects [] = 0
lost_count objects (d ∷ ds) = one_if (ends_feature d ds && is_lost objects d) + lost_count objects ds

-- how many they are
abbrev pub lost : List (List ℕ × TopoObject) → List Dropped → ℕ
lost objects dropped = saturated (lost_count objects dropped)
