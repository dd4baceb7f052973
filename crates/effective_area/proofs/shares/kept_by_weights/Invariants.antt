use Rattle.std.proofs.Common.{◌≡◌, get_or}
use Rattle.std.specs.List.{filter, range_with_len}
use Rattle.effective_area.specs.Shares.{stays_at}
use Rattle.effective_area.specs.declared.weight.Weight.TheVariants.{End}
use Rattle.effective_area.proofs.shares.kept_by_weights.Given as goal

-- those so far
abbrev pub invariant-weights : goal.invariant-weights
invariant-weights l = l.kept.items ≡ filter (λ i. stays_at l.threshold (get_or l.weights i End)) (range_with_len 0 l.i)
