use Rattle.std.proofs.Common.{arith}
use Rattle.topo_model.proofs.Passed.{counted_all, counted_on}
use Rattle.topo_model.proofs.counting.count_of.Goals as goal

pub cells-preserved : goal.cells-preserved
cells-preserved c = record {
  all = counted_on c.cells.last c.args.arc.now c.cells.cell-index c.cell-item.result c.cells.count c.new_after-count.result _ (omega (arith, c.cells-test.true)) c.cell-item.is c.new_after-count.ensures.count c.cells.invariant.all;
  few = omega (arith, c.new_after-count.ensures.most, c.cells.invariant.few);
}

pub returns : goal.returns
returns c = counted_all c.cells.last c.args.arc.now c.cells.cell-index c.cells.count c.cells-test.false c.cells.invariant.few c.cells.invariant.all
