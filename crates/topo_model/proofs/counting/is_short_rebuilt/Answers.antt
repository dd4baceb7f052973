use Rattle.std.proofs.Common.{nat_lt, drop, map, ap, arith}
use Rattle.geometry.specs.Joins.{arc_at, stitched}
use Rattle.topo_model.specs.Passing.{missing_after, unpassed}
use Rattle.topo_model.proofs.Passed.{later_left, later_passed, later_all, enough_seen, all_seen}
use Rattle.topo_model.proofs.counting.is_short_rebuilt.Goals as goal

pub returns-then-need-eq0 : goal.returns-then-need-eq0
returns-then-need-eq0 c =
    let view = ap (λ v. v.missing) c.need.view_is in
    enough_seen c.args.closed (stitched (map (arc_at c.args.arcs.now) c.args.refs.now)) (later_left c.args.arcs.now (drop c.later.index-index c.in-Some.later.now)) c.later.need
    (omega (arith, view, c.if-need-eq0.true)) c.later.invariant

pub later-preserved : goal.later-preserved
later-preserved c =
    later_passed missing_after c.args.arcs.now c.in-Some.later.now c.later.index-index c.index-item.result (stitched (map (arc_at c.args.arcs.now) c.args.refs.now)) (unpassed c.args.closed) c.later.need
    c.pass_ref-in-later.new.self c.later-test.true c.index-item.is c.later.invariant c.pass_ref-in-later.ensures

pub returns : goal.returns
returns c =
    all_seen c.args.closed (stitched (map (arc_at c.args.arcs.now) c.args.refs.now)) c.later.need _ (ap (λ v. nat_lt 0 v.missing) c.need-2.view_is)
    (later_all missing_after c.args.arcs.now c.in-Some.later.now c.later.index-index (stitched (map (arc_at c.args.arcs.now) c.args.refs.now)) (unpassed c.args.closed) c.later.need c.later-test.false c.later.invariant)
