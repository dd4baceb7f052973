use Rattle.build_meaning.proofs.AtFirst.{first_is_valid}
use Rattle.build_meaning.proofs.in_turn_laws.without_small_is_valid.Goals as goal

pub returns : goal.returns
returns c = first_is_valid c.first_is_left_at_zero.ensures c.left_is_valid.ensures
