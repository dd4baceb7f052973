use Rattle.std.proofs.Common.{take}
use Rattle.topo_model.proofs.Chosen.{Chooses}
use Rattle.layer_topology.proofs.used.used_lines.Given as goal

-- those so far
abbrev pub invariant-arcs : goal.invariant-arcs
invariant-arcs l = Chooses l.fn.used (take l.arc-index l.arcs) l.later l.lines.items
