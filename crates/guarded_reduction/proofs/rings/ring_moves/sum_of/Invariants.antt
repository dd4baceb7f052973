use Rattle.std.proofs.Common.{◌≡◌, ◌+◌, ◌*◌, ◌≤◌, drop, map}
use Rattle.guarded_reduction.specs.Moves.{capped, ring_moves}
use Rattle.guarded_reduction.proofs.rings.ring_moves.sum_of.Given as goal

-- with those after them they are all
abbrev pub invariant-refs : goal.invariant-refs
invariant-refs l = record {
  few : l.sum ≤ l.arc-index * 3;
  rest : l.sum + ring_moves (map capped l.moves) (drop l.arc-index l.refs) ≡ ring_moves (map capped l.moves) l.refs;
}
