use Rattle.std.proofs.Common.{map, ap, sym, ◌∙◌, arith}
use Rattle.geometry.specs.Joins.{arc_at, stitched}
use Rattle.topo_model.specs.Passing.{sum_with}
use Rattle.topo_model.proofs.Enclosed.{start, all_summed, none_summed}
use Rattle.topo_model.proofs.Passed.{later_passed, later_all}
use Rattle.topo_model.proofs.enclosing.SummedArcs.ring_sum.Goals as goal

pub returns-in_default : goal.returns-in_default
returns-in_default c = ap (λ s. s.sum) c.new-sum.ensures ∙ sym (none_summed c.args.self.now c.args.refs.now c.in_default.ensures.cases)

pub later-preserved : goal.later-preserved
later-preserved c = record {
  rest = later_passed sum_with c.args.self.now c.in-Some.later.now c.later.index-index c.index-item.result (stitched (map (arc_at c.args.self.now) c.args.refs.now)) start c.later.sum
      c.pass_ref-in-later.new.sum c.later-test.true c.index-item.is c.later.invariant.rest c.pass_ref-in-later.ensures.sums;
  bound = omega (arith, c.later.invariant.bound, c.pass_ref-in-later.ensures.bound);
}

pub returns : goal.returns
returns c =
    all_summed (stitched (map (arc_at c.args.self.now) c.args.refs.now)) c.later.sum
    (later_all sum_with c.args.self.now c.in-Some.later.now c.later.index-index (stitched (map (arc_at c.args.self.now) c.args.refs.now)) start c.later.sum c.later-test.false c.later.invariant.rest)
