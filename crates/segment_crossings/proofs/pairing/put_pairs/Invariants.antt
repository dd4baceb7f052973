use Rattle.std.proofs.Common.{◌≡◌, ◌+◌, ◌-◌, ◌<◌, ◌≤◌, ◌++◌, length, take}
use Rattle.segment_crossings.specs.Lines.{line_at, pairs_from}
use Rattle.segment_crossings.proofs.pairing.put_pairs.Given as goal

-- with those ahead they are all
abbrev pub invariant-loop-other : goal.invariant-loop-other
invariant-loop-other l = record {
  ahead : l.rank < l.other;
  few : length l.pairs.items ≤ l.most;
  all : take l.most (l.pairs.items ++ pairs_from l.lines (line_at l.lines l.rank) l.other) ≡ take l.most (l.fn.pairs.items ++ pairs_from l.lines (line_at l.lines l.rank) (l.rank + 1));
}

abbrev pub decreases-loop-other : goal.decreases-loop-other
decreases-loop-other l = length l.lines - l.other
