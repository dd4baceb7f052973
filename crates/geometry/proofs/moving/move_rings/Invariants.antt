use Rattle.std.proofs.Common.{map}
use Rattle.geometry.proofs.Moved.{Replaced}
use Rattle.geometry.proofs.moving.move_rings.Given as goal

abbrev pub invariant-rings : goal.invariant-rings
invariant-rings g l = Replaced (map (g.M.Moves.goes_to l.moves)) l.fn.rings l.ring-index l.rings
