use Rattle.std.proofs.Common.{List, map}
use Rattle.geometry.specs.Points.{Point}
use Rattle.grid_snap.proofs.Widening.{Left}
use Rattle.extraction.proofs.bounds.with_outlines.Given as goal

abbrev pub invariant-lines : goal.invariant-lines
invariant-lines l = Left (λ (ps : List Point). ps) (map (λ b. b.1) l.outlines) l.i l.fn.bounds l.all
