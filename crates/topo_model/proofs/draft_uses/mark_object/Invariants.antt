use Rattle.std.proofs.Common.{◌≡◌, drop}
use Rattle.geometry.specs.Lists.{map_some}
use Rattle.build_meaning.specs.Protected.{sparing}
use Rattle.topo_model.specs.Along.{ways_after}
use Rattle.topo_model.specs.DraftUses.{refs_at_first}
use Rattle.topo_model.specs.Marks.{also_set}
use Rattle.topo_model.proofs.DraftUses.{features_use}
use Rattle.topo_model.proofs.draft_uses.mark_object.Given as goal

abbrev pub invariant-features : goal.invariant-features
invariant-features l =
    let k = sparing (refs_at_first (map_some (λ r. r.now) l.first)) in record {
      used : also_set (features_use k l.ways (drop l.feature-index l.feature-items)) 0 l.used ≡ also_set (features_use k l.initial.ways l.feature-items) 0 l.initial.used;
      ways : ways_after l.ways (drop l.feature-index l.feature-items) ≡ ways_after l.initial.ways l.feature-items;
    }
