use Rattle.topo_model.proofs.Passed.{directed_at}
use Rattle.topo_model.proofs.counting.cell_at.Goals as goal

pub returns : goal.returns
returns c = directed_at c.args.reversed c.args.arc.now c.args.k c.index_in-i.result c.index-arc-i.result c.requires c.index_in-i.ensures.index c.index-arc-i.is
