use Rattle.std.proofs.lemmas.List.Sorted.{IsPermutation-trans}
use Rattle.guarded_reduction.proofs.index.ordering.put_in_order.Goals as goal

pub returns : goal.returns
returns c = IsPermutation-trans _ _ _ c.in_ok-arrange.ensures c.rotate_left.ensures.permutation
