use Rattle.std.proofs.Common.{◌≡◌, ◌++◌, drop}
use Rattle.build_meaning.specs.Protected.{greatest_ring, protected_rings}
use Rattle.topo_model.specs.Ways.{ways_of}
use Rattle.topo_model.proofs.protecting.rings_of_summed.Given as goal

abbrev pub invariant-objects : goal.invariant-objects
invariant-objects l =
    (l.found.ways ++ ways_of (greatest_ring l.arcs) (drop l.object-index l.objects) ≡ ways_of (greatest_ring l.arcs) l.objects)
    × (l.found.rings ++ protected_rings (greatest_ring l.arcs) (drop l.object-index l.objects) ≡ protected_rings (greatest_ring l.arcs) l.objects)
