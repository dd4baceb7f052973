use Rattle.std.proofs.Common.{map}
use Rattle.std.specs.Vec.Iter.{into_iter_items}
use Rattle.layer_topology.proofs.InTurn.{Fills}
use Rattle.layer_topology.proofs.used.retained_in_turn.Given as goal

-- what stays of those so far
abbrev pub invariant-loop-i : goal.invariant-loop-i
invariant-loop-i l = Fills l.used l.arcs (map (λ k. k.items) l.fn.numbers.items) l.i (map (λ k. k.items) (into_iter_items l.given)) l.left.items
