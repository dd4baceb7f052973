use Rattle.std.proofs.Common.{◌≡◌, ◌++◌, length, drop}
use Rattle.guarded_reduction.specs.First.{after_index, before_index, links_of}
use Rattle.guarded_reduction.specs.SideBySide.{afters_in, befores_in}
use Rattle.guarded_reduction.proofs.places.flattening.all_neighbours.Given as goal

-- with those of the other arcs they are all
abbrev pub invariant-arcs : goal.invariant-arcs
invariant-arcs l = record {
  befores : befores_in l.all.items ++ links_of before_index (length l.all.items) (drop l.arc-index l.arcs) ≡ links_of before_index 0 l.arcs;
  afters : afters_in l.all.items ++ links_of after_index (length l.all.items) (drop l.arc-index l.arcs) ≡ links_of after_index 0 l.arcs;
}
