use Rattle.std.proofs.Common.{◌≡◌, ◌-◌, ◌≤◌, ◌++◌, drop, length, map, take}
use Rattle.segment_crossings.specs.Crossings.{crossing_pairs}
use Rattle.segment_crossings.specs.Lines.{as_segment}
use Rattle.segment_crossings.proofs.pairing.pairs_in_order.Given as goal

-- with those ahead they are all
abbrev pub invariant-loop-rank : goal.invariant-loop-rank
invariant-loop-rank l = record {
  few : length l.pairs.items ≤ l.most;
  all : take l.most (l.pairs.items ++ crossing_pairs (map as_segment (drop l.rank l.lines))) ≡ take l.most (crossing_pairs (map as_segment l.lines));
}

abbrev pub decreases-loop-rank : goal.decreases-loop-rank
decreases-loop-rank l = length l.lines - l.rank
