use Rattle.std.proofs.lemmas.List.Sorted.{IsPermutation-append, IsPermutation-trans}
use Rattle.planar_predicates.proofs.halving.+halve.Goals as goal

pub returns : goal.returns
returns g t c =
    let cut = c.split_at_mut-front.ensures in
    IsPermutation-trans _ _ _ c.divide.ensures (rw cut.value (IsPermutation-append _ _ _ _ c.halve.ensures c.halve-2.ensures))
