use Rattle.std.proofs.Common.{◌≡◌, drop, true}
use Rattle.std.specs.List.{list_any}
use Rattle.geometry.specs.Lists.{map_some}
use Rattle.geometry.specs.Pruning.{area_by}
use Rattle.build_meaning.specs.OuterRings.{along, rings_marked}
use Rattle.build_meaning.specs.Protected.{sparing}
use Rattle.topo_model.specs.DraftUses.{refs_at_first, rings_name}
use Rattle.topo_model.specs.Marks.{also_set}
use Rattle.topo_model.proofs.draft_uses.mark_areas.Given as goal

abbrev pub invariant-areas : goal.invariant-areas
invariant-areas l =
    let r = refs_at_first (map_some (λ r. r.now) l.first) in
    let way = map_some (λ w. w.now) l.way in
    also_set (λ n. list_any (λ rs. rings_name (area_by (sparing r true) rs) n) (along rings_marked l.i (drop l.i l.areas) way)) 0 l.used
    ≡ also_set (λ n. list_any (λ rs. rings_name (area_by (sparing r true) rs) n) (along rings_marked 0 l.areas way)) 0 l.initial.used
