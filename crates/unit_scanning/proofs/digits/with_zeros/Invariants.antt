use Rattle.std.proofs.Common.{◌≡◌, ◌≤◌, ◌*◌, ◌^◌}
use Rattle.unit_scanning.proofs.digits.with_zeros.Given as goal

abbrev pub invariant-loop-done : goal.invariant-loop-done
invariant-loop-done l = record {
  small : l.value ≤ 10 ^ 18;
  so_far : l.value ≡ l.start * 10 ^ l._done;
}
