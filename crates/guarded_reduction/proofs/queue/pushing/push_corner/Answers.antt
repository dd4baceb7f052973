use Rattle.guarded_reduction.proofs.Heap.{pushed}
use Rattle.guarded_reduction.proofs.queue.pushing.push_corner.Goals as goal

pub returns-in_ok-push : goal.returns-in_ok-push
returns-in_ok-push c = pushed _ _ _ _ _ c.in-Some.entry c.in_ok-push.ensures c.in-Some.ensures.due c.in-Some.ensures.value c.in-Some.ensures.below
