use Rattle.std.proofs.Common.{List}
use Rattle.geometry.specs.Points.{Point}
use Rattle.grid_snap.proofs.Widening.{Left}
use Rattle.grid_snap.proofs.bounds.with_rings.Given as goal

abbrev pub invariant-rings : goal.invariant-rings
invariant-rings l = Left (λ (ps : List Point). ps) l.rings l.ring-index l.fn.bounds l.all
