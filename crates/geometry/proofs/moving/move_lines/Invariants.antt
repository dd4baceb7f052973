use Rattle.std.proofs.Common.{map}
use Rattle.geometry.proofs.Moved.{Replaced}
use Rattle.geometry.proofs.moving.move_lines.Given as goal

abbrev pub invariant-lines : goal.invariant-lines
invariant-lines g l = Replaced (map (g.M.Moves.goes_to l.moves)) l.fn.lines l.line-index l.lines
