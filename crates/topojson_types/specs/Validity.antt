-- Which topologies are valid: TopoJSON 1.0, section 2.
use Rattle.std.specs.Prelude.{◌≡◌, ◌≤◌, ℕ, ℤ, Bool, true, false, ◌&&◌, List, [], ◌∷◌, Option, None, Some, length, map}
use Rattle.std.specs.List.{AllByRecursion, list_all}
pub use Rattle.owned_values.specs.Lists.{AreDistinct}
use Rattle.geometry.specs.declared.shape.Geometry.{fold-Geometry}
use Rattle.geometry.specs.declared.shape.Geometry.TheOpen.{Geometry-F}
use Rattle.geojson_types.specs.Features.{is_some_list}
use Rattle.geometry.specs.Lists.{joined}
use Rattle.geometry.specs.Points.{Point, IsWithin, IsPosition}
use Rattle.topojson_types.specs.declared.feature.TopoFeature.{TopoFeature}
use Rattle.topojson_types.specs.declared.object.TopoObject.{TopoObject}
use Rattle.topojson_types.specs.declared.object.TopoObject.TheVariants.{One, Many}
use Rattle.topojson_types.specs.declared.transform.Transform.{Transform}
pub use Rattle.geometry.specs.Joins.{AreInRange}
use Rattle.geometry.specs.Joins.{arc_at, Meet, Closes}
use Rattle.topojson_types.specs.Topologies.{TopoShape, Contents, object_features, objects_lines_and_rings}
use Rattle.topojson_types.specs.Transforms.{grid_limit, place_on, IsTransform}

-- ---- shapes

-- one level, with the answers for the shapes of a group in their place
abbrev pub full_step : Geometry-F Point (List ℤ) (List ℤ) Bool → Bool
full_step (Geometry-F.Point p) = true
full_step (Geometry-F.MultiPoint ps) = is_some_list ps
full_step (Geometry-F.Line refs) = is_some_list refs
full_step (Geometry-F.Lines ls) = is_some_list ls && list_all is_some_list ls
full_step (Geometry-F.Area rs) = is_some_list rs && list_all is_some_list rs
full_step (Geometry-F.Areas areas) = is_some_list areas && list_all (λ rs. is_some_list rs && list_all is_some_list rs) areas
full_step (Geometry-F.Group bs) = list_all (λ b. b) bs

-- no list is empty but a Group's
unfoldable pub is_full : TopoShape → Bool
is_full = fold-Geometry Point (List ℤ) (List ℤ) Bool full_step

abbrev pub is_full_option : Option TopoShape → Bool
is_full_option None = true
is_full_option (Some s) = is_full s

-- one level, with the cells of the shapes of a group in their place
abbrev pub places_step : Geometry-F Point (List ℤ) (List ℤ) (List Point) → List Point
places_step (Geometry-F.Point p) = p ∷ []
places_step (Geometry-F.MultiPoint ps) = ps
places_step (Geometry-F.Line refs) = []
places_step (Geometry-F.Lines ls) = []
places_step (Geometry-F.Area rs) = []
places_step (Geometry-F.Areas areas) = []
places_step (Geometry-F.Group pss) = joined pss

-- the cells of the Points and MultiPoints of a shape
unfoldable pub places : TopoShape → List Point
places = fold-Geometry Point (List ℤ) (List ℤ) (List Point) places_step

abbrev pub option_places : Option TopoShape → List Point
option_places None = []
option_places (Some s) = places s

-- the cells of the Points and MultiPoints of features
abbrev pub features_places : List TopoFeature → List Point
features_places fs = joined (map (λ f. option_places f.shape) fs)

-- the cells of the Points and MultiPoints of all objects
abbrev pub objects_places : List (List ℕ × TopoObject) → List Point
objects_places os = joined (map (λ o. features_places (object_features o.1)) os)

-- one level, and the shape is no Group
abbrev pub single_step : Geometry-F Point (List ℤ) (List ℤ) Bool → Bool
single_step (Geometry-F.Point p) = true
single_step (Geometry-F.MultiPoint ps) = true
single_step (Geometry-F.Line refs) = true
single_step (Geometry-F.Lines ls) = true
single_step (Geometry-F.Area rs) = true
single_step (Geometry-F.Areas areas) = true
single_step (Geometry-F.Group bs) = false

unfoldable pub is_single : TopoShape → Bool
is_single = fold-Geometry Point (List ℤ) (List ℤ) Bool single_step

abbrev pub is_single_option : Option TopoShape → Bool
is_single_option None = true
is_single_option (Some s) = is_single s

-- ---- objects

-- a cell may stand in the topology: without a transform it is a position, and with one a cell of the grid that lies at one
abbrev pub IsPlace : Option Transform → Point → Type 0
IsPlace None c = IsPosition c
IsPlace (Some t) c = IsWithin grid_limit c × IsPosition (place_on t c)

-- all lists of it are full, and the cells of its Points and MultiPoints may stand there
abbrev pub IsFeature : Option Transform → TopoFeature → Type 0
IsFeature transform f = (is_full_option f.shape ≡ true) × AllByRecursion (IsPlace transform) (option_places f.shape)

-- the features of an object may stand in the topology, and one alone is no collection
abbrev pub IsObject : Option Transform → TopoObject → Type 0
IsObject transform (One f) = IsFeature transform f × (is_single_option f.shape ≡ true)
IsObject transform (Many fs) = AllByRecursion (IsFeature transform) fs

-- ---- lines

-- the line's arcs meet
abbrev pub IsJoined : List (List Point) → Bool × List ℤ → Type 0
IsJoined arcs b = Meet (map (arc_at arcs) b.1)

-- the arcs of a ring close
abbrev pub IsClosed : List (List Point) → Bool × List ℤ → Type 0
IsClosed arcs b = b.0 ≡ true → Closes (map (arc_at arcs) b.1)

-- ---- topologies

-- two cells or more that may stand there
abbrev pub IsArc : Option Transform → List Point → Type 0
IsArc transform cs = (2 ≤ length cs) × AllByRecursion (IsPlace transform) cs

-- the numbers of a transform are numbers that are within their limit
abbrev pub IsTransformed : Option Transform → Type 0
IsTransformed None = Unit {0}
IsTransformed (Some t) = IsTransform t

pub record IsTopology (t : Contents) : Type 0 where
  pub names : AreDistinct (map (λ o. o.0) t.objects)
  pub transform : IsTransformed t.transform
  pub objects : AllByRecursion (λ o. IsObject t.transform o.1) t.objects
  pub arcs : AllByRecursion (IsArc t.transform) t.arcs
  pub ranged : AllByRecursion (λ b. AreInRange (length t.arcs) b.1) (objects_lines_and_rings t.objects)
  pub joined : AllByRecursion (IsJoined t.arcs) (objects_lines_and_rings t.objects)
  pub closed : AllByRecursion (IsClosed t.arcs) (objects_lines_and_rings t.objects)
