use Rattle.std.proofs.Common.{◌≡◌, length}
use Rattle.guarded_reduction.specs.Orders.{AreRanks}
use Rattle.guarded_reduction.proofs.index.ordering.ranks_of.Given as goal

abbrev pub invariant-loop-rank : goal.invariant-loop-rank
invariant-loop-rank l = record {
  as_many : length l.ranks.items ≡ length l.places;
  ranks : AreRanks l.places l.ranks.items l.rank;
}
