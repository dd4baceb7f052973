use Rattle.std.proofs.Common.{arith}
use Rattle.guarded_reduction.proofs.Heap.{walked, still_only}
use Rattle.guarded_reduction.proofs.queue.pushing.push_waiting.Goals as goal

pub waits-preserved : goal.waits-preserved
waits-preserved c = record {
  within = omega (arith, c.wait-wait.ensures.falls, c.waits.invariant.within);
  has = λ d h. c.in_ok-push_corner.ensures.has d (c.waits.invariant.has d h);
  here = λ v h. walked c.args.threshold c.args.places.now c.waits.queue c.push_corner.new.queue c.args.waiting.now.waits c.waits.number v c.wait-wait.result c.wait-wait.ensures.value c.in_ok-push_corner.ensures (c.waits.invariant.here v h);
  only = λ d h. still_only c.args.threshold c.args.places.now c.args.queue.now c.waits.queue c.push_corner.new.queue c.wait-wait.result.corner c.in_ok-push_corner.ensures c.waits.invariant.only d h;
}
