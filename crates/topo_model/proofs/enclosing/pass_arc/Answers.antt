use Rattle.std.proofs.Common.{◌<◌, drop, length, arith}
use Rattle.topo_model.specs.Passing.{directed, sum_with}
use Rattle.topo_model.proofs.Enclosed.{sums_one}
use Rattle.topo_model.proofs.Passed.{directed_length, one_passed}
use Rattle.topo_model.proofs.enclosing.pass_arc.Goals as goal

pub cells-preserved : goal.cells-preserved
cells-preserved c =
    let arc = directed c.args.reversed c.args.arc.now in
    let lt : c.cells.k < length c.args.arc.now = omega (arith, c.cells-test.true) in
    let long = directed_length c.args.reversed c.args.arc.now in
    record {
      rest = one_passed sum_with arc (drop c.args.from arc) c.cells.k c.position_at.result c.args.sum.now c.cells.sum c.pass.new.self (omega (arith, lt, long)) c.position_at.ensures c.cells.invariant.rest
          (sums_one c.cells.sum c.pass.new.self c.position_at.result c.pass.ensures.passed);
      few = omega (arith, lt);
      bound = omega (arith, c.pass.ensures.bound, c.cells.invariant.bound);
    }
