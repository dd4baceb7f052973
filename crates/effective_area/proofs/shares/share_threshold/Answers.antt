use Rattle.std.proofs.lemmas.List.Sorted.{IsNonDecreasingBy-from_sort}
use Rattle.effective_area.proofs.shares.share_threshold.Goals as goal

pub rising_threshold-requires-clause-rising : goal.rising_threshold-requires-clause-rising
rising_threshold-requires-clause-rising c = rw c.as_slice.ensures.value (IsNonDecreasingBy-from_sort (λ x. x) c.sort_unstable.new.self.items c.sort_unstable.ensures.sorted)
