use Rattle.decimal_text.proofs.SpellsParts.{number-parts, parts-number}
use Rattle.decimal_text.proofs.laws.numbers_have_parts.Goals as goal

pub returns : goal.returns
returns c = λ t. (parts-number t, number-parts t)
