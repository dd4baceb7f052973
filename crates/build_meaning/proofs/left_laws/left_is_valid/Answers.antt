use Rattle.build_meaning.proofs.LeftOf.{is_valid}
use Rattle.build_meaning.proofs.left_laws.left_is_valid.Goals as goal

pub returns : goal.returns
returns c = is_valid c.arcs_rise.ensures
