use Rattle.std.proofs.Common.{◌≡◌, map}
use Rattle.std.specs.List.{range_with_len}
use Rattle.guarded_reduction.specs.Orders.{place_of}
use Rattle.guarded_reduction.proofs.index.ordering.keys_of.Given as goal

abbrev pub invariant-loop-place : goal.invariant-loop-place
invariant-loop-place l = map place_of l.keys.items ≡ range_with_len 0 l.place
