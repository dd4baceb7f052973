use Rattle.std.proofs.Common.{◌≡◌, length}
use Rattle.fault_explanations.specs.Places as spec
use Rattle.fault_explanations.proofs.place.place_in.Given as goal

abbrev pub invariant-loop-rest : goal.invariant-loop-rest
invariant-loop-rest l = spec.place_after l.rest l.place ≡ spec.place_after l.initial.rest l.initial.place

abbrev pub decreases-loop-rest : goal.decreases-loop-rest
decreases-loop-rest l = length l.rest
