use Rattle.std.proofs.lemmas.List.Sorted.{IsPermutation-trans}
use Rattle.planar_predicates.proofs.halving.divide.Goals as goal

pub returns-then-under-first : goal.returns-then-under-first
returns-then-under-first g c = IsPermutation-trans _ _ _ c.put_first-under.ensures.permutation c.put_next.ensures
