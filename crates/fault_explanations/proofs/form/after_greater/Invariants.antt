use Rattle.std.proofs.Common.{◌≡◌, length}
use Rattle.fault_explanations.specs.Forms as spec
use Rattle.fault_explanations.proofs.form.after_greater.Given as goal

abbrev pub invariant-loop-rest : goal.invariant-loop-rest
invariant-loop-rest l = spec.after_greater l.rest ≡ spec.after_greater l.initial.rest

abbrev pub decreases-loop-rest : goal.decreases-loop-rest
decreases-loop-rest l = length l.rest
