use Rattle.decimal_text.proofs.ReadsParts.{parts-read}
use Rattle.decimal_text.proofs.SpellsParts.{parts-spelled}
use Rattle.decimal_text.proofs.laws.parts_are_spelled.Goals as goal

pub returns : goal.returns
returns c = λ t n. (parts-spelled t n, parts-read t n)
