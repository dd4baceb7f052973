use Rattle.build_meaning.proofs.AtFirst.{first_on_grid}
use Rattle.build_meaning.proofs.in_turn_laws.without_small_on_grid.Goals as goal

pub returns : goal.returns
returns c = first_on_grid c.first_is_left_at_zero.ensures c.left_on_grid.ensures
