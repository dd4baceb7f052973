use Rattle.std.proofs.Common.{◌+◌, ◌*◌, ◌≤◌, drop, map, unsigned_abs}
use Rattle.topo_model.specs.Passing.{most_of_arc, sum_with}
use Rattle.topo_model.proofs.Enclosed.{start}
use Rattle.topo_model.proofs.Passed.{Open, later_left}
use Rattle.geometry.specs.Joins.{arc_at, stitched}
use Rattle.topo_model.proofs.enclosing.SummedArcs.ring_sum.Given as goal

abbrev pub invariant-later : goal.invariant-later
invariant-later l = record {
  rest : Open sum_with (later_left l.self (drop l.index-index l.later)) (stitched (map (arc_at l.self) l.refs)) start l.sum;
  bound : unsigned_abs l.sum.sum ≤ (l.index-index + 1) * most_of_arc;
}
