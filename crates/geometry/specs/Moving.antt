-- Geometries whose positions are replaced, each by the one that a function gives.
use Rattle.std.specs.Prelude.{List, map}
use Rattle.geometry.specs.declared.shape.Geometry.{fold-Geometry}
use Rattle.geometry.specs.declared.shape.Geometry.TheOpen.{Geometry-F}
use Rattle.geometry.specs.declared.shape.Geometry.TheVariants as g
use Rattle.geometry.specs.Shapes.{Shape}
use Rattle.geometry.specs.Points.{Point}

-- one level, with the moved shapes of a group in their place
abbrev pub moved_step : (Point → Point) → Geometry-F Point (List Point) (List Point) Shape → Shape
moved_step f (Geometry-F.Point p) = g.Point (f p)
moved_step f (Geometry-F.MultiPoint ps) = g.MultiPoint (map f ps)
moved_step f (Geometry-F.Line ps) = g.Line (map f ps)
moved_step f (Geometry-F.Lines ls) = g.Lines (map (map f) ls)
moved_step f (Geometry-F.Area rs) = g.Area (map (map f) rs)
moved_step f (Geometry-F.Areas areas) = g.Areas (map (map (map f)) areas)
moved_step f (Geometry-F.Group ss) = g.Group ss

-- the shape with each position replaced
unfoldable pub moved : (Point → Point) → Shape → Shape
moved f = fold-Geometry Point (List Point) (List Point) Shape (moved_step f)
