use Rattle.std.proofs.Common.{◌≡◌, map, drop}
use Rattle.geometry.specs.Paths.{of_parts}
use Rattle.build_meaning.specs.OuterRings.{outer_ring}
use Rattle.topo_model.specs.Searching.{all_met, at_way}
use Rattle.topo_model.proofs.searching.meet_areas.Given as goal

abbrev pub invariant-loop-number : goal.invariant-loop-number
invariant-loop-number l =
    (l.way.items ≡ l.initial.way.items)
    × (all_met l.arcs l.best (at_way l.initial.way.items (of_parts l.number (map outer_ring (drop l.number l.areas))))
    ≡ all_met l.arcs l.initial.best (at_way l.initial.way.items (of_parts 0 (map outer_ring l.areas))))
