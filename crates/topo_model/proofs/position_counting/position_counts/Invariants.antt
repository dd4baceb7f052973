use Rattle.std.proofs.Common.{◌≡◌, length, map, take}
use Rattle.topo_model.proofs.position_counting.position_counts.Given as goal

-- those so far
abbrev pub invariant-arcs : goal.invariant-arcs
invariant-arcs g l = l.counts.items ≡ map length (take l.arc-index l.arcs)
