use Rattle.std.proofs.Common.{◌≡◌, ◌+◌, ◌-◌, ◌<◌, drop}
use Rattle.guarded_reduction.specs.Moves.{moves}
use Rattle.guarded_reduction.proofs.rings.ring_moves.moves_of.Given as goal

-- with those after the last position they are all
abbrev pub invariant-loop-i : goal.invariant-loop-i
invariant-loop-i l = record {
  some : 0 < l.i;
  few : l.moves < l.i;
  rest : l.moves + moves (drop (l.i - 1) l.positions) ≡ moves l.positions;
}
