use Rattle.std.proofs.Common.{◌≡◌, map, take}
use Rattle.guarded_reduction.specs.Moves.{moves}
use Rattle.guarded_reduction.proofs.rings.ring_moves.all_moves.Given as goal

abbrev pub invariant-arcs : goal.invariant-arcs
invariant-arcs l = l.all.items ≡ map moves (take l.arc-index l.arcs)
