use Rattle.std.proofs.Common.{◌≡◌, ◌+◌, ◌++◌, length, map}
use Rattle.std.specs.List.{range_with_len}
use Rattle.guarded_reduction.specs.First.{after_index, before_index}
use Rattle.guarded_reduction.specs.SideBySide.{afters_in, befores_in}
use Rattle.guarded_reduction.proofs.places.flattening.put_neighbours.Given as goal

-- those so far
abbrev pub invariant-loop-i : goal.invariant-loop-i
invariant-loop-i l = record {
  befores : befores_in l.all.items ≡ befores_in l.fn.all.items ++ map (λ i. length l.fn.all.items + before_index l.n i) (range_with_len 0 l.i);
  afters : afters_in l.all.items ≡ afters_in l.fn.all.items ++ map (λ i. length l.fn.all.items + after_index l.n i) (range_with_len 0 l.i);
}
