use Rattle.std.proofs.Common.{◌≡◌, ℕ, ◌<◌, ◌≤◌, ◌⊎◌, length, get_or}
use Rattle.effective_area.specs.Capped.{or_area}
use Rattle.effective_area.specs.declared.weight.Weight.TheVariants.{End}
use Rattle.effective_area.proofs.weighing.fill.Given as goal

-- those so far
abbrev pub invariant-positions : goal.invariant-positions
invariant-positions l = record {
  size : length l.weights ≡ length l.initial.weights;
  filled : (k : ℕ) → 0 < k → k < l.i → get_or l.weights k End ≡ or_area l.level (get_or l.initial.weights k End);
  others : (k : ℕ) → (k ≡ 0) ⊎ (l.i ≤ k) → get_or l.weights k End ≡ get_or l.initial.weights k End;
}
