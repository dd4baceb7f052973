use Rattle.std.proofs.Common.{List, ap, ◌∙◌}
use Rattle.geometry.specs.Points.{Point}
use Rattle.grid_snap.specs.Bounds.{widened_by}
use Rattle.grid_snap.proofs.Widening.{ends, lists_of}
use Rattle.grid_snap.proofs.bounds.with_lines.Goals as goal

pub returns : goal.returns
returns c = ends (λ (ps : List Point). ps) c.args.lines.now c.lines.line-index c.args.bounds c.lines.all c.lines-test.false c.lines.invariant ∙ ap (widened_by c.args.bounds) (lists_of c.args.lines.now)
