use Rattle.std.proofs.Common.{◌≡◌, ◌+◌, ◌-◌, ◌≤◌, min}
use Rattle.segment_crossings.specs.Lines.{bad_from}
use Rattle.segment_crossings.specs.Trees.{bad_in}
use Rattle.segment_crossings.proofs.counting.count_in.Given as goal

-- with those ahead they are all
abbrev pub invariant-loop-rank : goal.invariant-loop-rank
invariant-loop-rank l = record {
  within : l.rank ≤ l.fn.run.end;
  count : l.count ≤ l.limit;
  all : min l.limit (l.count + (bad_from l.lines l.line l.rank - bad_from l.lines l.line l.fn.run.end)) ≡ min l.limit (l.sofar + bad_in l.lines l.line l.fn.run);
}

abbrev pub decreases-loop-rank : goal.decreases-loop-rank
decreases-loop-rank l = l.fn.run.end - l.rank
