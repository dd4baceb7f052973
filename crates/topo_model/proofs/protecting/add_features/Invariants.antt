use Rattle.std.proofs.Common.{◌≡◌, ◌++◌, map, drop}
use Rattle.geometry.specs.Lists.{some_of}
use Rattle.build_meaning.specs.Protected.{greatest_ring, protected_of}
use Rattle.topo_model.specs.Ways.{way_of}
use Rattle.topo_model.proofs.protecting.add_features.Given as goal

abbrev pub invariant-features : goal.invariant-features
invariant-features l =
    (l.found.ways ++ map (way_of (greatest_ring l.arcs)) (drop l.feature-index l.features) ≡ l.initial.found.ways ++ map (way_of (greatest_ring l.arcs)) l.features)
    × (l.found.rings ++ some_of (protected_of (greatest_ring l.arcs)) (drop l.feature-index l.features) ≡ l.initial.found.rings ++ some_of (protected_of (greatest_ring l.arcs)) l.features)
