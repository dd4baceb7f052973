use Rattle.std.proofs.Common.{◌≡◌, ◌+◌, ◌-◌, ◌≤◌, min}
use Rattle.segment_crossings.specs.Lines.{bad_inside}
use Rattle.segment_crossings.specs.Trees.{bad_within}
use Rattle.segment_crossings.proofs.counting.count_few.Given as goal

-- with those ahead they are all
abbrev pub invariant-loop-rank : goal.invariant-loop-rank
invariant-loop-rank l = record {
  count : l.count ≤ l.limit;
  all : min l.limit (l.count + bad_inside l.lines l.rank (l.fn.run.end - l.rank) l.fn.run.end) ≡ min l.limit (l.sofar + bad_within l.lines l.fn.run);
}
