use Rattle.std.proofs.Common.{map, refl, ap, ◌∙◌}
use Rattle.geometry.proofs.Moved.{turns, refilled}
use Rattle.geometry.proofs.moving.move_areas.Goals as goal

pub areas-preserved : goal.areas-preserved
areas-preserved g c =
    turns (map (map (g.M.Moves.goes_to c.args.moves.now))) c.args.areas.now c.areas.area-index c.areas.areas c.area-item.result _ c.areas-test.true c.areas.invariant
    (refilled (map (g.M.Moves.goes_to c.args.moves.now)) _ _ _ refl (c.move_rings.ensures ∙ ap (map (map (g.M.Moves.goes_to c.args.moves.now))) c.as_mut_slice.ensures.value))
