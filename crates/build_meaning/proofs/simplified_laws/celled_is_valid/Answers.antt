use Rattle.build_meaning.proofs.ValidCelled.{celled_is_valid}
use Rattle.build_meaning.proofs.simplified_laws.celled_is_valid.Goals as goal

pub returns : goal.returns
returns c transform cell y numbers plain on h = celled_is_valid transform cell y numbers plain on h
