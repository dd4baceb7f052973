use Rattle.build_meaning.proofs.InTurn.{in_turn_at_once}
use Rattle.build_meaning.proofs.in_turn_laws.in_turn_is_at_once.Goals as goal

pub returns : goal.returns
returns c = in_turn_at_once
