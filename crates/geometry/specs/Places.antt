-- The positions of shapes, in reading order.
use Rattle.std.specs.Prelude.{List, [], ◌∷◌, Option, Some, None}
use Rattle.geometry.specs.declared.shape.Geometry.{fold-Geometry}
use Rattle.geometry.specs.declared.shape.Geometry.TheOpen.{Geometry-F}
use Rattle.geometry.specs.Shapes.{Shape}
use Rattle.geometry.specs.Lists.{joined}
use Rattle.geometry.specs.Points.{Point}

-- one level, with the positions of the shapes of a group in their place
abbrev pub points_step : Geometry-F Point (List Point) (List Point) (List Point) → List Point
points_step (Geometry-F.Point p) = p ∷ []
points_step (Geometry-F.MultiPoint ps) = ps
points_step (Geometry-F.Line ps) = ps
points_step (Geometry-F.Lines ls) = joined ls
points_step (Geometry-F.Area rs) = joined rs
points_step (Geometry-F.Areas rss) = joined (joined rss)
points_step (Geometry-F.Group pss) = joined pss

-- the positions of a shape
unfoldable pub shape_points : Shape → List Point
shape_points = fold-Geometry Point (List Point) (List Point) (List Point) points_step

-- the positions of a shape that may be null
abbrev pub option_points : Option Shape → List Point
option_points None = []
option_points (Some s) = shape_points s
