-- Layers as a draft of a topology: each line and ring is replaced by the indexes of its arcs, or by none where it has too few positions
-- from the first.
use Rattle.std.specs.Prelude.{ℕ, ℤ, Bool, true, false, List, [], ◌∷◌, Option, None, Some, map, if◌then◌else◌}
use Rattle.build_meaning.specs.Layers.{Named}
pub use Rattle.extraction.specs.Extracts.{RefsOf, TakesApart, feature_relined, no_refs, relined_step}
unfoldable pub use Rattle.extraction.specs.Extracts.{relined}
use Rattle.geojson_types.specs.Features.{Featured}
use Rattle.geometry.specs.declared.shape.Geometry.{fold-Geometry}
use Rattle.geometry.specs.declared.shape.Geometry.TheOpen.{Geometry-F}
use Rattle.geometry.specs.declared.shape.Geometry.TheVariants as g
use Rattle.geometry.specs.Points.{Point}
use Rattle.junctions.specs.Cleaning.{clean, is_short}
use Rattle.topojson_types.specs.declared.feature.TopoFeature.{TopoFeature}
use Rattle.topojson_types.specs.declared.object.TopoObject.{TopoObject}
use Rattle.topojson_types.specs.declared.object.TopoObject.TheVariants.{One, Many}
use Rattle.topojson_types.specs.Topologies.{TopoShape}

-- ---- lines and rings

-- the arc indexes of the lines and rings that have enough positions from the first
abbrev pub long_refs : RefsOf → List (Bool × List Point) → List (List ℤ)
long_refs of [] = []
long_refs of (b ∷ bs) = if is_short b.0 (clean b.1) then long_refs of bs else of b.0 b.1 ∷ long_refs of bs

-- what stands for a line or ring
abbrev pub draft_refs : RefsOf → RefsOf
draft_refs of closed ps = if is_short closed (clean ps) then [] else of closed ps

-- ---- shapes and layers

-- a layer is a collection of its features, under its name
abbrev pub objects_relined : RefsOf → Named → List (List ℕ × TopoObject)
objects_relined f ls = map (λ l. (l.0, Many (map (feature_relined f) l.1.features))) ls

abbrev pub feature_drafted : RefsOf → Featured → TopoFeature
feature_drafted of = feature_relined (draft_refs of)

abbrev pub objects_drafted : RefsOf → Named → List (List ℕ × TopoObject)
objects_drafted of = objects_relined (draft_refs of)

-- ---- filled

-- what stands for these lines and rings
abbrev pub refs_of : RefsOf → List (Bool × List Point) → List (List ℤ)
refs_of f bs = map (λ b. f b.0 b.1) bs

-- one for each flag: none where it is set, else the next of these
abbrev pub spread : List Bool → List (List ℤ) → List (List ℤ)
spread [] refs = []
spread (true ∷ flags) refs = [] ∷ spread flags refs
spread (false ∷ flags) [] = [] ∷ spread flags []
spread (false ∷ flags) (r ∷ refs) = r ∷ spread flags refs

-- what is made of the arc indexes that remain, and those that remain then
abbrev pub Fill : Type 0 → Type 0
Fill Y = List (List ℤ) → Y × List (List ℤ)

-- with something else made of it
abbrev pub as_made : {X Y : Type 0} → (X → Y) → X × List (List ℤ) → Y × List (List ℤ)
as_made make p = (make p.0, p.1)

-- one after the other
abbrev pub in_turn : {Y : Type 0} → List (Fill Y) → Fill (List Y)
in_turn [] w = ([], w)
in_turn (f ∷ fs) w = as_made (λ ys. (f w).0 ∷ ys) (in_turn fs (f w).1)

-- the next, none where none remains
abbrev pub next_refs : Fill (List ℤ)
next_refs [] = ([], [])
next_refs (r ∷ rest) = (r, rest)

-- in the place of a line or ring
abbrev pub line_filled : List ℤ → Fill (List ℤ)
line_filled old w = next_refs w

abbrev pub lines_filled : List (List ℤ) → Fill (List (List ℤ))
lines_filled ls = in_turn (map line_filled ls)

-- one level, with how the shapes of a group are filled in their place
abbrev pub filled_step : Geometry-F Point (List ℤ) (List ℤ) (Fill TopoShape) → Fill TopoShape
filled_step (Geometry-F.Point p) w = (g.Point p, w)
filled_step (Geometry-F.MultiPoint ps) w = (g.MultiPoint ps, w)
filled_step (Geometry-F.Line l) w = as_made g.Line (line_filled l w)
filled_step (Geometry-F.Lines ls) w = as_made g.Lines (lines_filled ls w)
filled_step (Geometry-F.Area rs) w = as_made g.Area (lines_filled rs w)
filled_step (Geometry-F.Areas areas) w = as_made g.Areas (in_turn (map lines_filled areas) w)
filled_step (Geometry-F.Group fs) w = as_made g.Group (in_turn fs w)

-- the lines and rings of a shape replaced in reading order
unfoldable pub shape_filled : TopoShape → Fill TopoShape
shape_filled = fold-Geometry Point (List ℤ) (List ℤ) (Fill TopoShape) filled_step

abbrev pub option_filled : Option TopoShape → Fill (Option TopoShape)
option_filled None w = (None, w)
option_filled (Some s) w = as_made (λ t. Some t) (shape_filled s w)

abbrev pub feature_filled : TopoFeature → Fill TopoFeature
feature_filled f w = as_made (λ s. record { id = f.id; properties = f.properties; shape = s }) (option_filled f.shape w)

-- a collection; a draft has no other object
abbrev pub object_filled : TopoObject → Fill TopoObject
object_filled (One f) w = (One f, w)
object_filled (Many fs) w = as_made (λ gs. Many gs) (in_turn (map feature_filled fs) w)

abbrev pub named_filled : List ℕ × TopoObject → Fill (List ℕ × TopoObject)
named_filled o w = as_made (λ p. (o.0, p)) (object_filled o.1 w)
