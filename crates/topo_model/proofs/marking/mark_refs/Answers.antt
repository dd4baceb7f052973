use Rattle.std.proofs.Common.{ℤ, ◌==◌}
use Rattle.geometry.specs.Joins.{number_of}
use Rattle.topo_model.proofs.Marked.{begins, marks_more}
use Rattle.topo_model.proofs.marking.mark_refs.Goals as goal

pub refs-init : goal.refs-init
refs-init c = begins (λ (r : ℤ) n. number_of r == n) c.args.used.now c.args.refs.now

pub refs-preserved : goal.refs-preserved
refs-preserved c =
    marks_more (λ (r : ℤ) n. number_of r == n) c.args.used.now c.refs.used c.mark_arc.new.used c.args.refs.now c.refs.arc-index c.arc-item.result c.refs-test.true c.arc-item.is c.refs.invariant c.mark_arc.ensures
