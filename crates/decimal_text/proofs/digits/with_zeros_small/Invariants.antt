use Rattle.std.proofs.Common.{◌≡◌, ◌≤◌, ◌*◌, ◌^◌}
use Rattle.decimal_text.proofs.digits.with_zeros_small.Given as goal

abbrev pub invariant-loop-done : goal.invariant-loop-done
invariant-loop-done l = record {
  small : l.value ≤ l.limit;
  so_far : l.value ≡ l.start * 10 ^ l._done;
}
