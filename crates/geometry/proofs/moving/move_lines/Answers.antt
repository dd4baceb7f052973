use Rattle.std.proofs.Common.{map, refl, ap, ◌∙◌}
use Rattle.geometry.proofs.Moved.{turns, refilled}
use Rattle.geometry.proofs.moving.move_lines.Goals as goal

pub lines-preserved : goal.lines-preserved
lines-preserved g c =
    turns (map (g.M.Moves.goes_to c.args.moves.now)) c.args.lines.now c.lines.line-index c.lines.lines c.line-item.result _ c.lines-test.true c.lines.invariant
    (refilled (g.M.Moves.goes_to c.args.moves.now) _ _ _ refl (c.move_positions.ensures ∙ ap (map (g.M.Moves.goes_to c.args.moves.now)) c.as_mut_slice.ensures.value))
