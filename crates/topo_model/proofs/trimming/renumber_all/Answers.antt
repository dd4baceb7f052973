use Rattle.topo_model.specs.Renumbering.{renumbered_by}
use Rattle.geometry.proofs.Moved.{turns}
use Rattle.topo_model.proofs.trimming.renumber_all.Goals as goal

pub refs-preserved : goal.refs-preserved
refs-preserved c =
    turns (renumbered_by c.args.renumbering.now) c.args.refs.now c.refs.index-index c.refs.refs c.index-item.result _ c.refs-test.true c.refs.invariant c.renumber.ensures
