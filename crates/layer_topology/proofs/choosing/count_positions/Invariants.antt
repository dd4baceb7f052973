use Rattle.std.proofs.Common.{◌≡◌, length, take}
use Rattle.std.specs.List.{sum_by}
use Rattle.layer_topology.proofs.choosing.count_positions.Given as goal

-- those so far
abbrev pub invariant-arcs : goal.invariant-arcs
invariant-arcs l = l.count ≡ sum_by length (take l.arc-index l.arcs)
