use Rattle.std.proofs.Common.{List}
use Rattle.geometry.specs.Points.{Point}
use Rattle.grid_snap.proofs.Widening.{Left}
use Rattle.grid_snap.proofs.bounds.with_lines.Given as goal

abbrev pub invariant-lines : goal.invariant-lines
invariant-lines l = Left (λ (ps : List Point). ps) l.lines l.line-index l.fn.bounds l.all
