use Rattle.std.specs.List.{All}
use Rattle.segment_crossings.specs.Marks.{IsMark}
use Rattle.segment_crossings.proofs.tree.marks_of.Given as goal

abbrev pub invariant-nodes : goal.invariant-nodes
invariant-nodes l = All (IsMark l.lines) l.marks.items
