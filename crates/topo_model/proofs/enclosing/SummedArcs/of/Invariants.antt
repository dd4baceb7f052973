use Rattle.std.proofs.Common.{◌≡◌, length}
use Rattle.topo_model.specs.Passing.{AreSums}
use Rattle.topo_model.proofs.enclosing.SummedArcs.of.Given as goal

abbrev pub invariant-arcs : goal.invariant-arcs
invariant-arcs l = record {
  many : length l.sums.items ≡ l.arc-index;
  are : AreSums l.arcs l.sums.items;
}
