-- The arcs that lines and rings use.
use Rattle.std.specs.Prelude.{◌≡◌, ℕ, ℤ, Bool, true, List, Some, map}
use Rattle.std.specs.List.{AllByRecursion, list_any}
use Rattle.geojson_types.specs.Features.{is_some_list}
use Rattle.geometry.specs.Joins.{AreInRange}
use Rattle.topo_model.specs.Marks.{names_arc}
use Rattle.topo_model.specs.Renumbering.{renumbered_by}
use Rattle.build_meaning.specs.Simplified.{Refs}
use Rattle.topojson_types.specs.declared.object.TopoObject.{TopoObject}
use Rattle.topojson_types.specs.Topologies.{objects_lines_and_rings}

-- an index of one of the open lines and rings names the arc of this number
abbrev pub any_uses : List (Bool × List ℤ) → ℕ → Bool
any_uses bs n = list_any (λ b. names_arc b.1 n) bs

-- a line or ring has an index, and each of its indexes names one of so many arcs
abbrev pub NamesArcs : ℕ → Bool × List ℤ → Type 0
NamesArcs n b = AreInRange n b.1 × (is_some_list b.1 ≡ true)

-- so each line and ring of objects
abbrev pub AllNameArcs : ℕ → List (List ℕ × TopoObject) → Type 0
AllNameArcs n os = AllByRecursion (NamesArcs n) (objects_lines_and_rings os)

-- the indexes of a line or ring by the new index of each arc
abbrev pub renumbered_refs : List ℤ → Refs
renumbered_refs renumbering closed refs = Some (map (renumbered_by renumbering) refs)

-- the indexes of a line or ring as they are
abbrev pub as_they_are : Refs
as_they_are closed refs = Some refs
