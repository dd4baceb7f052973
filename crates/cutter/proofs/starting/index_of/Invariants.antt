use Rattle.std.proofs.Common.{◌≡◌, drop, ◌+◌}
use Rattle.cutter.proofs.Names.{same, first_at}
use Rattle.cutter.proofs.starting.index_of.Given as goal

abbrev pub invariant-loop-i : goal.invariant-loop-i
invariant-loop-i l = first_at (λ q. same q l.p) l.positions ≡ l.i + first_at (λ q. same q l.p) (drop l.i l.positions)
