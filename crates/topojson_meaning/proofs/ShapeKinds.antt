-- What the shapes of a topology are written as, and a topology.
use Rattle.std.proofs.Common.{◌≡◌, List, [], ◌∷◌, ◌++◌, map, arith}
use Rattle.std.specs.Prelude.{codes}
use Rattle.topojson_meaning.proofs.Names.{Point, Json, geometrical_at, bounds, TopoShape, Contents}
use Rattle.json_value.specs.declared.json.Json.TheVariants as j
use Rattle.json_value.proofs.Texts.{fused}
use Rattle.geometry.specs.declared.shape.Geometry.TheVariants as g
use Rattle.topojson_types.specs.Values.{Members, typed, inner_value, geometrical, cell_value, members_of_transform, members_of_bounds, objects_value, arcs_value}

-- ---- what they are written as

pub geometrical-group : (cell : Point → Json) (ss : List TopoShape) → geometrical cell (g.Group ss) ≡ typed (codes "GeometryCollection") (codes "geometries") (j.Array (map (λ s. inner_value (geometrical cell s)) ss))
geometrical-group cell ss = grind (arith, (geometrical_at cell).group, fused)

-- ---- topologies

-- the members that a topology is written as
abbrev pub written_members : Contents → Members
written_members t =
    (codes "type", j.Text (codes "Topology"))
    ∷ (members_of_transform t.transform
    ++ (members_of_bounds (bounds t)
    ++ ((codes "objects", objects_value (cell_value t.transform) t.objects)
    ∷ ((codes "arcs", arcs_value t.transform t.arcs) ∷ []))))
