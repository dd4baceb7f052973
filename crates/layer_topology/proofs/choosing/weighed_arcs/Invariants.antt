use Rattle.std.proofs.Common.{map, take}
use Rattle.effective_area.specs.Capped.{AreCapped}
use Rattle.effective_area.specs.Weights.{weights_of}
use Rattle.layer_topology.proofs.choosing.weighed_arcs.Given as goal

-- those so far
abbrev pub invariant-arcs : goal.invariant-arcs
invariant-arcs l = AreCapped l.most (map weights_of (take l.arc-index l.arcs)) (map (λ w. w.items) l.all.items)
