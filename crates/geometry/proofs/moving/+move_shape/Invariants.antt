use Rattle.geometry.specs.Moving.{moved}
use Rattle.geometry.proofs.Moved.{Replaced}
use Rattle.geometry.proofs.moving.+move_shape.Given as goal

abbrev pub invariant-shapes : goal.invariant-shapes
invariant-shapes g l = record {
  left : goal.unvisited-shapes g l;
  made : Replaced (moved (g.M.Moves.goes_to l.moves)) l.initial.shape-items l.shape-index l.shape-items;
}
