use Rattle.std.proofs.Common.{rules}
use Rattle.std.proofs.lemmas.List.Sorted.{IsPermutation-trans}
use Rattle.planar_predicates.proofs.halving.put_first.Goals as goal

pub items-preserved : goal.items-preserved
items-preserved g c = record {
  permutation = IsPermutation-trans _ _ _ c.items.invariant.permutation c.swap.ensures.permutation;
  within = search rules;
}
