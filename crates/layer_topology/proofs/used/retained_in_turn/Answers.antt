use Rattle.std.proofs.Common.{map, rules}
use Rattle.std.specs.Vec.Iter.{into_iter_items}
use Rattle.layer_topology.proofs.InTurn.{fills_more}
use Rattle.layer_topology.proofs.used.retained_in_turn.Goals as goal

pub loop-i-preserved : goal.loop-i-preserved
loop-i-preserved c =
    fills_more c.args.used.now c.args.arcs.now (map (λ k. k.items) c.args.numbers.items) (map (λ k. k.items) (into_iter_items c.loop-i.given)) (map (λ k. k.items) (into_iter_items c.cells_in_turn.new.given)) c.loop-i.i _
    c.loop-i.left.items c.push.new.self.items c.index-arcs-i.result _ c.loop-i-test.true c.index-arcs-i.is (search rules) c.cells_in_turn.ensures.rest c.in_ok-push.ensures.items c.loop-i.invariant
