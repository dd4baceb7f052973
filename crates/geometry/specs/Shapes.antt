-- Shapes of layers: geometries over positions, and which of them a feature may have.
use Rattle.std.specs.Prelude.{Bool, true, ◌&&◌, nat_le, List, length, Option, Some, None}
use Rattle.std.specs.List.{list_all}
pub use Rattle.owned_values.specs.Lists.{is_some_list}
use Rattle.geometry.specs.Points.{Point}
use Rattle.geometry.specs.declared.shape.Geometry.{Geometry, fold-Geometry}
use Rattle.geometry.specs.declared.shape.Geometry.TheOpen.{Geometry-F}

-- a geometry over positions, where a line and a ring are the list of theirs
abbrev pub Shape : Type 0
Shape = Geometry Point (List Point) (List Point)

-- two positions or more
abbrev pub is_line : List Point → Bool
is_line ps = nat_le 2 (length ps)

-- one level, with the answers for the shapes of a group in their place
abbrev pub proper_step : Geometry-F Point (List Point) (List Point) Bool → Bool
proper_step (Geometry-F.Point p) = true
proper_step (Geometry-F.MultiPoint ps) = is_some_list ps
proper_step (Geometry-F.Line ps) = is_line ps
proper_step (Geometry-F.Lines ls) = is_some_list ls && list_all is_line ls
proper_step (Geometry-F.Area rs) = is_some_list rs
proper_step (Geometry-F.Areas rss) = is_some_list rss && list_all is_some_list rss
proper_step (Geometry-F.Group bs) = list_all (λ b. b) bs

-- no list is empty but a Group's, and each line has two positions or more
unfoldable pub is_proper : Shape → Bool
is_proper = fold-Geometry Point (List Point) (List Point) Bool proper_step

-- a proper shape, or none
abbrev pub is_proper_option : Option Shape → Bool
is_proper_option None = true
is_proper_option (Some s) = is_proper s
