use Rattle.std.proofs.Common.{◌≡◌, ◌+◌, ◌++◌, drop, length, map}
use Rattle.geometry.specs.Lists.{joined}
use Rattle.guarded_reduction.specs.Numbers.{all_kept_indexes}
use Rattle.guarded_reduction.proofs.reducing.all_kept.Given as goal

-- with those of the other arcs they are all
abbrev pub invariant-arcs : goal.invariant-arcs
invariant-arcs l = record {
  first : l.first + length (joined (drop l.arc-index l.arcs)) ≡ length (joined l.arcs);
  all : map (λ kept. kept.items) l.all.items ++ all_kept_indexes l.stays l.first (drop l.arc-index l.arcs) ≡ all_kept_indexes l.stays 0 l.arcs;
}
