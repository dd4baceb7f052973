use Rattle.std.proofs.Common.{sym, ◌∙◌}
use Rattle.unit_scanning.proofs.PlainNumbers.{digits_are_all}
use Rattle.unit_scanning.proofs.plain.whole_digits_at.Goals as goal

pub returns-clause-value : goal.returns-clause-value
returns-clause-value c = (digits_are_all _ _ _ _ c.few_digits_at-value.ensures.digits (sym c.starts_with_digit.ensures ∙ c.if-starts_with_digit.false)).0

pub returns-clause-rest : goal.returns-clause-rest
returns-clause-rest c = (digits_are_all _ _ _ _ c.few_digits_at-value.ensures.digits (sym c.starts_with_digit.ensures ∙ c.if-starts_with_digit.false)).1
