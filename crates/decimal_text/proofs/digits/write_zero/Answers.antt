use Rattle.std.proofs.Common.{refl}
use Rattle.std.proofs.lemmas.Bool.{false≢true}
use Rattle.decimal_text.proofs.DigitsValue.{zero_parts, zero_prefix, zero_back, zeros-value}
use Rattle.decimal_text.proofs.digits.write_zero.Goals as goal

pub returns-then-all_zeros : goal.returns-then-all_zeros
returns-then-all_zeros c = (
  (λ t. zero_parts c.args.whole.now c.args.fraction.now (c.if-all_zeros.ensures.0 refl) (c.all_zeros-then-all_zeros.ensures.0 t)),
  (λ e. c.all_zeros-then-all_zeros.ensures.1 (zeros-value _ c.requires.fraction (zero_back c.args.whole.now _ e))),
)

pub returns-else-all_zeros : goal.returns-else-all_zeros
returns-else-all_zeros c = (
  (λ t. absurd (false≢true (rw c.if-all_zeros.false at t))),
  λ e. c.all_zeros.ensures.1 (zeros-value _ c.requires.whole (zero_prefix _ c.args.fraction.now c.requires.whole e)),
)
