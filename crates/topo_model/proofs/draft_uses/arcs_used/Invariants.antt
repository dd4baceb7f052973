use Rattle.std.proofs.Common.{◌≡◌, drop, map}
use Rattle.geometry.specs.Lists.{map_some}
use Rattle.build_meaning.specs.Protected.{sparing}
use Rattle.build_meaning.specs.Trimming.{is_used}
use Rattle.topo_model.specs.Along.{objects_along}
use Rattle.topo_model.specs.DraftUses.{refs_at_first}
use Rattle.topo_model.specs.Marks.{also_set}
use Rattle.topo_model.proofs.draft_uses.arcs_used.Given as goal

abbrev pub invariant-objects : goal.invariant-objects
invariant-objects l =
    let k = sparing (refs_at_first (map_some (λ r. r.now) l.first)) in
    also_set (is_used (objects_along k l.rest (drop l.object-index l.objects))) 0 l.used.items ≡ also_set (is_used (objects_along k (map (map_some (λ v. v.items)) l.ways) l.objects)) 0 l.initial.used.items
