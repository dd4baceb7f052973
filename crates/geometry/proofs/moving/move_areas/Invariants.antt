use Rattle.std.proofs.Common.{map}
use Rattle.geometry.proofs.Moved.{Replaced}
use Rattle.geometry.proofs.moving.move_areas.Given as goal

abbrev pub invariant-areas : goal.invariant-areas
invariant-areas g l = Replaced (map (map (g.M.Moves.goes_to l.moves))) l.fn.areas l.area-index l.areas
