use Rattle.std.proofs.lemmas.List.Sorted.{IsPermutation-append_right}
use Rattle.planar_predicates.proofs.halving.put_next.Goals as goal

pub returns : goal.returns
returns g c = rw c.split_at_mut-rest.ensures.value (IsPermutation-append_right _ _ _ c.put_first.ensures.permutation)
