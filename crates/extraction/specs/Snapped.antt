-- Features of a topology of which only the Points are replaced, each by the one that a function gives.
use Rattle.std.specs.Prelude.{ℤ, List, map}
use Rattle.geometry.specs.declared.shape.Geometry.{fold-Geometry}
use Rattle.geometry.specs.declared.shape.Geometry.TheOpen.{Geometry-F}
use Rattle.geometry.specs.declared.shape.Geometry.TheVariants as g
use Rattle.geometry.specs.Lists.{map_some}
use Rattle.geometry.specs.Points.{Point}
use Rattle.topojson_types.specs.declared.feature.TopoFeature.{TopoFeature}
use Rattle.topojson_types.specs.Topologies.{TopoShape}

-- one level, with what is made of the shapes of a group in their place
abbrev pub repointed_step : (Point → Point) → Geometry-F Point (List ℤ) (List ℤ) TopoShape → TopoShape
repointed_step f (Geometry-F.Point p) = g.Point (f p)
repointed_step f (Geometry-F.MultiPoint ps) = g.MultiPoint (map f ps)
repointed_step f (Geometry-F.Line l) = g.Line l
repointed_step f (Geometry-F.Lines ls) = g.Lines ls
repointed_step f (Geometry-F.Area rs) = g.Area rs
repointed_step f (Geometry-F.Areas areas) = g.Areas areas
repointed_step f (Geometry-F.Group ss) = g.Group ss

-- the shape with each cell of its Points and MultiPoints replaced
unfoldable pub repointed : (Point → Point) → TopoShape → TopoShape
repointed f = fold-Geometry Point (List ℤ) (List ℤ) TopoShape (repointed_step f)

abbrev pub feature_repointed : (Point → Point) → TopoFeature → TopoFeature
feature_repointed f x = record { id = x.id; properties = x.properties; shape = map_some (repointed f) x.shape }
