-- Quantized topologies: their positions as the cells that stand for them (TopoJSON 1.0, section 2.1.2).
use Rattle.std.specs.Prelude.{◌≡◌, ℕ, List, Some, map}
use Rattle.std.specs.List.{AllByRecursion}
use Rattle.geometry.specs.Lists.{then_some}
use Rattle.geometry.specs.Points.{Point, IsWithin}
use Rattle.geometry.specs.Pruning.{prune}
use Rattle.topojson_types.specs.declared.feature.TopoFeature.{TopoFeature}
use Rattle.topojson_types.specs.declared.object.TopoObject.{TopoObject}
use Rattle.topojson_types.specs.declared.object.TopoObject.TheVariants.{One, Many}
use Rattle.topojson_types.specs.declared.transform.Transform.{Transform}
use Rattle.topojson_types.specs.Topologies.{Contents}
use Rattle.topojson_types.specs.Transforms.{place_on, grid_limit}
use Rattle.topojson_types.specs.Validity.{objects_places}

-- ---- cells in place of positions

-- the feature with each position of its Points and MultiPoints as its cell
abbrev pub feature_celled : (Point → Point) → TopoFeature → TopoFeature
feature_celled cell f = record { id = f.id; properties = f.properties; shape = then_some (prune cell (λ closed refs. Some refs)) f.shape }

abbrev pub object_celled : (Point → Point) → TopoObject → TopoObject
object_celled cell (One f) = One (feature_celled cell f)
object_celled cell (Many fs) = Many (map (feature_celled cell) fs)

abbrev pub objects_celled : (Point → Point) → List (List ℕ × TopoObject) → List (List ℕ × TopoObject)
objects_celled cell os = map (λ o. (o.0, object_celled cell o.1)) os

-- a topology without a transform, with cells in place of its positions
unfoldable pub celled : Transform → (Point → Point) → Contents → Contents
celled transform cell y = record { objects = objects_celled cell y.objects; arcs = map (map cell) y.arcs; transform = Some transform }

-- ---- which positions lie on the grid

-- the cell of the position lies where the position lies
abbrev pub LiesBack : Transform → (Point → Point) → Point → Type 0
LiesBack transform cell p = place_on transform (cell p) ≡ p

-- the cell of the position lies where the position lies, and its numbers are within the bound of the grid
abbrev pub IsOnGrid : Transform → (Point → Point) → Point → Type 0
IsOnGrid transform cell p = IsWithin grid_limit (cell p) × LiesBack transform cell p

-- ---- the cells of a topology

-- each cell of its arcs, its Points and its MultiPoints has the property
abbrev pub EachCell : (Point → Type 0) → Contents → Type 0
EachCell X y = AllByRecursion (λ a. AllByRecursion X a) y.arcs × AllByRecursion X (objects_places y.objects)
