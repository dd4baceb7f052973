use Rattle.std.proofs.Common.{◌≡◌, map, take}
use Rattle.topo_model.specs.Passing.{counted}
use Rattle.topo_model.proofs.counting.counts_of.Given as goal

-- those so far
abbrev pub invariant-arcs : goal.invariant-arcs
invariant-arcs l = l.counts.items ≡ map counted (take l.arc-index l.arcs)
