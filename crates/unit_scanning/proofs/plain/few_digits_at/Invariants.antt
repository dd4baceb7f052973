use Rattle.std.proofs.Common.{◌≡◌, ◌<◌, ◌+◌, ◌*◌, ◌^◌}
use Rattle.unit_scanning.specs.Numbers.{AreDigits}
use Rattle.unit_scanning.proofs.plain.few_digits_at.Given as goal

abbrev pub invariant-loop-turn : goal.invariant-loop-turn
invariant-loop-turn l = record {
  so_far : AreDigits l.bytes l.start l.value l.count l.rest;
  small : l.value < (l.start + 1) * 10 ^ l.count;
  few : l.count ≡ l._turn;
}
