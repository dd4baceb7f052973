-- Features whose lines and rings are replaced, each by arc indexes or by nothing where it is taken out, and those that are taken out.
use Rattle.std.specs.Prelude.{◌≡◌, ℤ, Bool, true, false, List, [], ◌++◌, map}
use Rattle.geojson_types.specs.Features.{Featured, Shape}
use Rattle.geometry.specs.declared.shape.Geometry.{fold-Geometry}
use Rattle.geometry.specs.declared.shape.Geometry.TheOpen.{Geometry-F}
use Rattle.geometry.specs.declared.shape.Geometry.TheVariants as g
use Rattle.geometry.specs.Lists.{map_some}
use Rattle.geometry.specs.Points.{Point}
use Rattle.topojson_types.specs.declared.feature.TopoFeature.{TopoFeature}
use Rattle.topojson_types.specs.Topologies.{TopoShape}

-- ---- lines and rings

-- the arc indexes of an open line (false) or a ring (true)
abbrev pub RefsOf : Type 0
RefsOf = Bool → List Point → List ℤ

-- nothing stands for a line or ring
abbrev pub no_refs : RefsOf
no_refs closed ps = []

-- ---- shapes and features

-- one level, with what is made of the shapes of a group in their place
abbrev pub relined_step : RefsOf → Geometry-F Point (List Point) (List Point) TopoShape → TopoShape
relined_step f (Geometry-F.Point p) = g.Point p
relined_step f (Geometry-F.MultiPoint ps) = g.MultiPoint ps
relined_step f (Geometry-F.Line l) = g.Line (f false l)
relined_step f (Geometry-F.Lines ls) = g.Lines (map (f false) ls)
relined_step f (Geometry-F.Area rs) = g.Area (map (f true) rs)
relined_step f (Geometry-F.Areas areas) = g.Areas (map (map (f true)) areas)
relined_step f (Geometry-F.Group ss) = g.Group ss

-- the shape with each line and ring replaced
unfoldable pub relined : RefsOf → Shape → TopoShape
relined f = fold-Geometry Point (List Point) (List Point) TopoShape (relined_step f)

abbrev pub feature_relined : RefsOf → Featured → TopoFeature
feature_relined f x = record { id = x.id; properties = x.properties; shape = map_some (relined f) x.shape }

-- ---- taken out

-- the lines and rings are taken out, after those that were before, and this is left
abbrev pub TakesApart : {Y : Type 0} → List (Bool × List Point) → Y → List (Bool × List Point) → Y → List (Bool × List Point) → Type 0
TakesApart lines left before made after = (made ≡ left) × (after ≡ before ++ lines)
