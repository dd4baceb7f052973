use Rattle.geometry.proofs.Moved.{turns}
use Rattle.geometry.proofs.moving.move_positions.Goals as goal

pub positions-preserved : goal.positions-preserved
positions-preserved g c =
    turns (g.M.Moves.goes_to c.args.moves.now) c.args.positions.now c.positions.position-index c.positions.positions c.position-item.result _ c.positions-test.true c.positions.invariant c.moved.ensures
