use Rattle.std.proofs.Common.{ℕ, List, ◌-◌, length}
use Rattle.effective_area.proofs.LinkLaws.{Walk}
use Rattle.effective_area.proofs.links.present.Given as goal

-- what is left of the walk
abbrev pub invariant-loop-i : goal.invariant-loop-i
invariant-loop-i l = (rest : List ℕ) × (vs : List ℕ) × Walk l.links l.i l.kept.items rest vs

abbrev pub decreases-loop-i : goal.decreases-loop-i
decreases-loop-i l = length l.links - l.i
