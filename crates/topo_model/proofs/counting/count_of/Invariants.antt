use Rattle.std.proofs.Common.{◌≡◌, ◌+◌, ◌≤◌, drop, length}
use Rattle.junctions.specs.Cleaning.{clean}
use Rattle.topo_model.specs.Passing.{new_after}
use Rattle.topo_model.proofs.counting.count_of.Given as goal

abbrev pub invariant-cells : goal.invariant-cells
invariant-cells l = record {
  all : l.count + new_after l.last (drop l.cell-index l.arc) ≡ length (clean l.arc);
  few : l.count ≤ 6;
}
