use Rattle.std.proofs.Common.{map}
use Rattle.geometry.proofs.Moved.{Replaced}
use Rattle.linework.specs.Outlines.{over_positions}
use Rattle.linework.proofs.outlines.move_strokes.Given as goal

abbrev pub invariant-strokes : goal.invariant-strokes
invariant-strokes g l = Replaced (over_positions (map (g.M.Moves.goes_to l.moves))) l.fn.strokes l.stroke-index l.strokes
