use Rattle.std.proofs.Common.{◌≡◌, take}
use Rattle.layer_topology.proofs.used.whole_arcs.Given as goal

-- those so far
abbrev pub invariant-arcs : goal.invariant-arcs
invariant-arcs l = l.whole.items ≡ take l.arc-index l.arcs
