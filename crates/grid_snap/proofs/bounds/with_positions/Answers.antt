use Rattle.std.proofs.Common.{[], ◌∷◌, ap, ◌∙◌}
use Rattle.geometry.specs.Points.{Point}
use Rattle.grid_snap.specs.Bounds.{widened_by}
use Rattle.grid_snap.proofs.Widening.{ends, singles}
use Rattle.grid_snap.proofs.bounds.with_positions.Goals as goal

pub returns : goal.returns
returns c = ends (λ (p : Point). p ∷ []) c.args.positions.now c.positions.position-index c.args.bounds c.positions.all c.positions-test.false c.positions.invariant ∙ ap (widened_by c.args.bounds) (singles c.args.positions.now)
