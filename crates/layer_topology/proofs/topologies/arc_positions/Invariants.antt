use Rattle.std.proofs.Common.{◌≡◌, map, take}
use Rattle.std.specs.Option.{option_copied}
use Rattle.build_meaning.specs.Thresholds.{placed_cells}
use Rattle.layer_topology.proofs.topologies.arc_positions.Given as goal

abbrev pub invariant-arcs : goal.invariant-arcs
invariant-arcs l = l.lines.items ≡ map (placed_cells (option_copied l.transform)) (take l.arc-index l.arcs)
