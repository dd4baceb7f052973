use Rattle.std.proofs.Common.{arith}
use Rattle.decimal_text.proofs.RoundedFractions.{Rounds-longer, Rounds-shorter}
use Rattle.decimal_text.proofs.rounding.shift.Goals as goal

pub returns-then-up-down : goal.returns-then-up-down
returns-then-up-down c = grind (arith, Rounds-longer)

pub returns-else-up-down : goal.returns-else-up-down
returns-else-up-down c = grind (arith, Rounds-shorter)
