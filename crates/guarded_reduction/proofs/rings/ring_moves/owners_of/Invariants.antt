use Rattle.std.proofs.Common.{◌≡◌, ◌++◌, drop}
use Rattle.guarded_reduction.specs.Moves.{owners_of}
use Rattle.guarded_reduction.proofs.rings.ring_moves.owners_of.Given as goal

-- with those of the other arcs they are all
abbrev pub invariant-loop-i : goal.invariant-loop-i
invariant-loop-i l = l.all.items ++ owners_of l.i (drop l.i l.arcs) ≡ owners_of 0 l.arcs
