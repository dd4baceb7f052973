use Rattle.build_meaning.proofs.InTurn.{same_rings_stay}
use Rattle.build_meaning.proofs.in_turn_laws.same_rings_stay.Goals as goal

pub returns : goal.returns
returns c = same_rings_stay
