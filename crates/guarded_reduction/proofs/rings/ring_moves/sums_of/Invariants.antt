use Rattle.std.proofs.Common.{◌≡◌, map, take}
use Rattle.guarded_reduction.specs.Moves.{capped, ring_moves}
use Rattle.guarded_reduction.proofs.rings.ring_moves.sums_of.Given as goal

abbrev pub invariant-rings : goal.invariant-rings
invariant-rings l = l.sums.items ≡ map (ring_moves (map capped l.moves)) (take l.ring-index l.rings)
