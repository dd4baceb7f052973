use Rattle.decimal_text.proofs.DigitsValue.{leading_digits-all}
use Rattle.decimal_text.proofs.number_parts.split_digits.Goals as goal

pub returns-clause-digits : goal.returns-clause-digits
returns-clause-digits c = rw (c.split_at.ensures.front, c.digits_len.ensures.value) (leading_digits-all c.args.bytes.now)
