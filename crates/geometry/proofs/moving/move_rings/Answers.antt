use Rattle.std.proofs.Common.{map}
use Rattle.geometry.proofs.Moved.{turns}
use Rattle.geometry.proofs.moving.move_rings.Goals as goal

pub rings-preserved : goal.rings-preserved
rings-preserved g c =
    turns (map (g.M.Moves.goes_to c.args.moves.now)) c.args.rings.now c.rings.ring-index c.rings.rings c.ring-item.result _ c.rings-test.true c.rings.invariant c.move_positions.ensures
