use Rattle.std.proofs.Common.{arith}
use Rattle.decimal_text.specs.Digits.{digits_value}
use Rattle.decimal_text.proofs.DigitsValue.{digits_value_after-append, digits_value_after-ge}
use Rattle.decimal_text.proofs.RoundedFractions.{IsRounded-above, IsRoundedTo-whole, long_past}
use Rattle.decimal_text.proofs.rounding.shift_left.Goals as goal

pub returns-in_default : goal.returns-in_default
returns-in_default c =
    let all = digits_value_after-append 0 c.args.whole.now c.args.fraction.now in
    let more = digits_value_after-ge (digits_value c.args.whole.now) c.args.fraction.now in
    λ u r. IsRounded-above _ _ u c.args.limit (long_past _ c.args.limit c.args.zeros (omega (arith, c.in_default.ensures.err))) r

pub returns-in_default-extend : goal.returns-in_default-extend
returns-in_default-extend c =
    let all = digits_value_after-append 0 c.args.whole.now c.args.fraction.now in
    let past = rw (c.in-Ok.ensures.value, ← all) at c.in_default-extend.ensures.err in
    λ u r. IsRounded-above _ _ u c.args.limit (long_past _ c.args.limit c.args.zeros past) r

pub returns-in_default-with_zeros : goal.returns-in_default-with_zeros
returns-in_default-with_zeros c = grind (arith, digits_value_after-append, IsRounded-above)

pub returns : goal.returns
returns c = grind (arith, digits_value_after-append, IsRoundedTo-whole)
