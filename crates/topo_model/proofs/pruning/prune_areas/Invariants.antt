use Rattle.std.proofs.Common.{true}
use Rattle.geometry.specs.DropCauses.{area_drop_causes}
use Rattle.geometry.specs.Lists.{map_some}
use Rattle.geometry.specs.Pruning.{area_by}
use Rattle.build_meaning.specs.InTurn.{rings_paired}
use Rattle.build_meaning.specs.OuterRings.{rings_marked}
use Rattle.build_meaning.specs.Protected.{sparing}
use Rattle.topo_model.specs.Drops.{pair_sparing}
use Rattle.topo_model.proofs.Prefix.{InPrefix}
use Rattle.topo_model.proofs.pruning.prune_areas.Given as goal

abbrev pub invariant-loop-i : goal.invariant-loop-i
invariant-loop-i g l =
    InPrefix rings_marked (area_by (sparing (g.K.Keeps.keeps l.keeps) true)) (λ rs. area_drop_causes (pair_sparing (g.K.Keeps.goes l.keeps) true) (rings_paired rs)) (map_some (λ w. w.now) l.way) l.place
    0 l.initial.parts l.initial.dropped.items l.i l.kept l.parts l.dropped.items
