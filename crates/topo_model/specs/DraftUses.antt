-- The arcs that objects use before any is reduced: without the lines and rings that have no arc index or are small, and the polygons whose
-- outer ring is left out.
use Rattle.std.specs.Prelude.{ℕ, ℤ, Bool, false, List, [], ◌∷◌, Option, None, Some}
use Rattle.std.specs.List.{list_any}
use Rattle.geometry.specs.Lists.{then_some}
use Rattle.geometry.specs.Points.{Point}
use Rattle.geometry.specs.Pruning.{prune, option_lines_and_rings}
use Rattle.build_meaning.specs.OuterRings.{marked}
use Rattle.build_meaning.specs.Protected.{MarkedRefs}
use Rattle.build_meaning.specs.Simplified.{Refs, large_refs, objects_pruned}
use Rattle.topojson_types.specs.declared.object.TopoObject.{TopoObject}
use Rattle.topojson_types.specs.declared.transform.Transform.{Transform}
use Rattle.topojson_types.specs.Topologies.{TopoShape, Contents, features_lines_and_rings, object_features}
use Rattle.topo_model.specs.Along.{Ways, object_along}
use Rattle.topo_model.specs.ArcUses.{any_uses}
use Rattle.topo_model.specs.Marks.{names_arc}
use Rattle.topo_model.specs.Parts.{contents}
use Rattle.topo_model.specs.Rebuilding.{Rebuilding}

-- the arc indexes of a line or ring, if it has any
abbrev pub with_refs : Refs
with_refs closed [] = None
with_refs closed (r ∷ refs) = Some (r ∷ refs)

-- the topology for which a draft stands: its lines and rings without an arc index are left out, and so are the holes of such rings
abbrev pub draft_contents : List (List ℕ × TopoObject) → List (List Point) → Option Transform → Contents
draft_contents os arcs transform = contents (objects_pruned with_refs os) arcs transform

-- those of one that isn't small where it is rebuilt of arcs, if there are any, and else those of one that has any
abbrev pub refs_at_first : Option Rebuilding → Refs
refs_at_first None = with_refs
refs_at_first (Some arcs) = large_refs arcs.limit arcs.arcs

-- what is left of a line or ring names the arc of this number
abbrev pub left_names : Option (List ℤ) → ℕ → Bool
left_names None n = false
left_names (Some refs) n = names_arc refs n

-- what is left of the rings of a polygon
abbrev pub rings_name : Option (List (List ℤ)) → ℕ → Bool
rings_name None n = false
rings_name (Some rs) n = list_any (λ l. names_arc l n) rs

-- what is left of a shape that may be null, with a mark at the end of the way, uses the arc of this number
abbrev pub shape_uses : MarkedRefs → Option (List ℕ) → Option TopoShape → ℕ → Bool
shape_uses kept way s n = any_uses (option_lines_and_rings (then_some (λ s. prune (λ p. p) kept (marked s way)) s)) n

-- what is left of an object, whose features have these ways
abbrev pub object_uses : MarkedRefs → Ways → TopoObject → ℕ → Bool
object_uses kept ways o n = any_uses (features_lines_and_rings (object_features (object_along kept ways o))) n
