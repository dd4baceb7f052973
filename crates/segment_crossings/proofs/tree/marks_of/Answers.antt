use Rattle.std.proofs.lemmas.List.Elements.{All-push}
use Rattle.segment_crossings.specs.Marks.{IsMark}
use Rattle.segment_crossings.proofs.tree.marks_of.Goals as goal

pub nodes-preserved : goal.nodes-preserved
nodes-preserved c = rw c.in_ok-push.ensures.items (All-push (IsMark c.args.lines.now) _ _ c.nodes.invariant c.mark_over.ensures)
