use Rattle.std.proofs.Common.{◌≤◌}
use Rattle.std.specs.List.Sorted.{IsPermutation}
use Rattle.planar_predicates.proofs.halving.put_first.Given as goal

abbrev pub invariant-items : goal.invariant-items
invariant-items g l = record {
  permutation : IsPermutation l.fn.items l.items;
  within : l.first ≤ l.at;
}
