use Rattle.std.proofs.Common.{◌≡◌, ◌≤◌, drop}
use Rattle.decimal_text.specs.Digits.{digits_value_after}
use Rattle.decimal_text.proofs.digits.extend_large.Given as goal

abbrev pub invariant-loop-c : goal.invariant-loop-c
invariant-loop-c l = record {
  small : l.value ≤ l.limit;
  rest : digits_value_after l.value (drop l.c-index l.digits) ≡ digits_value_after l.start l.digits;
}
