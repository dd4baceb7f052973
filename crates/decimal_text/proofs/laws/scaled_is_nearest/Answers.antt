use Rattle.decimal_text.proofs.ScaledNumber.{scaled_of-nearest}
use Rattle.decimal_text.proofs.laws.scaled_is_nearest.Goals as goal

pub returns : goal.returns
returns c = scaled_of-nearest
