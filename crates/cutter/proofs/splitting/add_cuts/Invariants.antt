use Rattle.std.proofs.Common.{◌≡◌, ◌++◌, take}
use Rattle.cutter.proofs.Names.{is_member, indexes}
use Rattle.cutter.proofs.splitting.add_cuts.Given as goal

abbrev pub invariant-loop-i : goal.invariant-loop-i
invariant-loop-i l = l.cuts.items ≡ l.initial.cuts.items ++ indexes (is_member l.vertices.cuts) 0 (take l.i l.positions)
