use Rattle.std.proofs.Common.{◌≡◌, ◌+◌, ◌-◌, ◌≤◌, min}
use Rattle.segment_crossings.specs.Lines.{bad_across}
use Rattle.segment_crossings.specs.Trees.{bad_between}
use Rattle.segment_crossings.proofs.counting.count_each.Given as goal

-- with those ahead they are all
abbrev pub invariant-loop-rank : goal.invariant-loop-rank
invariant-loop-rank l = record {
  count : l.count ≤ l.limit;
  all : min l.limit (l.count + (bad_across l.tree.lines.items l.rank (l.fn.run.end - l.rank) l.node.run.first - bad_across l.tree.lines.items l.rank (l.fn.run.end - l.rank) l.node.run.end))
      ≡ min l.limit (l.sofar + bad_between l.tree.lines.items l.fn.run l.node.run);
}
