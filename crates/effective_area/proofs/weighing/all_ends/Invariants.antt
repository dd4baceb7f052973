use Rattle.std.proofs.Common.{◌≡◌, ℕ, ◌<◌, length, get_or, replicate}
use Rattle.geometry.specs.Points.{Point, IsPosition}
use Rattle.effective_area.specs.declared.weight.Weight.TheVariants.{End}
use Rattle.effective_area.proofs.weighing.all_ends.Given as goal

-- those so far
abbrev pub invariant-positions : goal.invariant-positions
invariant-positions l = record {
  ends : l.all.items ≡ replicate l.position-index End;
  within : (k : ℕ) (d : Point) → k < l.position-index → k < length l.arc → IsPosition (get_or l.arc k d);
}
