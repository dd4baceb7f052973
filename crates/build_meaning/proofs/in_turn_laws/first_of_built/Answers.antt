use Rattle.build_meaning.proofs.AtFirst.{first_of_built}
use Rattle.build_meaning.proofs.in_turn_laws.first_of_built.Goals as goal

pub returns : goal.returns
returns c = first_of_built
