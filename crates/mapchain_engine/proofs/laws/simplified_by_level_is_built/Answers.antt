use Rattle.mapchain_engine.proofs.BuiltAgain.{simplifies_by_level}
use Rattle.mapchain_engine.proofs.laws.simplified_by_level_is_built.Goals as goal

pub returns : goal.returns
returns c = simplifies_by_level c.one_value.ensures c.guarded_at_zero.ensures c.written_left_law.ensures c.topology_is_valid.ensures c.read_layers_are_taken.ensures
