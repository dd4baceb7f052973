-- The bounding box of a topology (TopoJSON 1.0, section 3).
use Rattle.std.specs.Prelude.{List, [], ◌∷◌, ◌++◌, map, Option, None, Some}
use Rattle.std.specs.Int.{int_min, int_max}
use Rattle.std.specs.List.{fold}
use Rattle.geometry.specs.Lists.{joined}
use Rattle.geometry.specs.Points.{Point}
use Rattle.topojson_types.specs.Topologies.{Contents}
use Rattle.topojson_types.specs.Transforms.{place}
use Rattle.topojson_types.specs.Validity.{objects_places}

-- a box with sides along the axes: the corner of its least numbers, and that of its greatest
abbrev pub Corners : Type 0
Corners = Point × Point

-- the least box that holds positions, from their least x and y to their greatest; there is none without a position
abbrev pub box : List Point → Option Corners
box [] = None
box (p ∷ ps) =
    let xs = map (λ q. q.x) ps in
    let ys = map (λ q. q.y) ps in
    Some (
      record { x = fold int_min p.x xs; y = fold int_min p.y ys },
      record { x = fold int_max p.x xs; y = fold int_max p.y ys },
    )

-- where the cells of a topology lie: those of its arcs, and those of the Points and MultiPoints of its objects
abbrev pub positions : Contents → List Point
positions y = map (place y.transform) (joined y.arcs ++ objects_places y.objects)

-- the least box that holds them all
unfoldable pub bounds : Contents → Option Corners
bounds y = box (positions y)
