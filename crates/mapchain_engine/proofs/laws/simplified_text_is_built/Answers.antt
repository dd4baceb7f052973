use Rattle.mapchain_engine.proofs.BuiltAgain.{simplifies_to_built}
use Rattle.mapchain_engine.proofs.laws.simplified_text_is_built.Goals as goal

pub returns : goal.returns
returns c = simplifies_to_built c.one_value.ensures c.guarded_at_zero.ensures c.written_left_law.ensures c.topology_is_valid.ensures c.read_layers_are_taken.ensures
