use Rattle.std.proofs.Common.{List, ap, ◌∙◌}
use Rattle.geometry.specs.Points.{Point}
use Rattle.grid_snap.specs.Bounds.{widened_by}
use Rattle.grid_snap.proofs.Widening.{ends, lists_of}
use Rattle.grid_snap.proofs.bounds.with_rings.Goals as goal

pub returns : goal.returns
returns c = ends (λ (ps : List Point). ps) c.args.rings.now c.rings.ring-index c.args.bounds c.rings.all c.rings-test.false c.rings.invariant ∙ ap (widened_by c.args.bounds) (lists_of c.args.rings.now)
