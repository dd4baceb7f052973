use Rattle.std.proofs.Common.{◌+◌, ◌*◌, ◌≤◌, ◌^◌, drop, unsigned_abs}
use Rattle.topo_model.specs.Passing.{directed, sum_with}
use Rattle.topo_model.proofs.Passed.{Open}
use Rattle.geometry.specs.Areas.{most_turned}
use Rattle.topo_model.proofs.enclosing.pass_arc.Given as goal

abbrev pub invariant-cells : goal.invariant-cells
invariant-cells l = record {
  rest : Open sum_with (drop l.k (directed l.reversed l.arc)) (drop l.from (directed l.reversed l.arc)) l.initial.sum l.sum;
  few : l.k ≤ 2 ^ 64;
  bound : unsigned_abs l.sum.sum ≤ unsigned_abs l.initial.sum.sum + l.k * most_turned;
}
