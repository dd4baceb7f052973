use Rattle.std.proofs.HeapSift.{empty}
use Rattle.effective_area.proofs.Queues.{queue_total}
use Rattle.effective_area.proofs.heap_links.kept_by.Goals as goal

pub eliminate-requires-clause-order : goal.eliminate-requires-clause-order
eliminate-requires-clause-order c = empty (queue_total c.args.arc.now) c.clear.new.self.items c.clear.ensures.items
