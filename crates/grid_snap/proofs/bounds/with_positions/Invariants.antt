use Rattle.std.proofs.Common.{[], ◌∷◌}
use Rattle.geometry.specs.Points.{Point}
use Rattle.grid_snap.proofs.Widening.{Left}
use Rattle.grid_snap.proofs.bounds.with_positions.Given as goal

abbrev pub invariant-positions : goal.invariant-positions
invariant-positions l = Left (λ (p : Point). p ∷ []) l.positions l.position-index l.fn.bounds l.all
