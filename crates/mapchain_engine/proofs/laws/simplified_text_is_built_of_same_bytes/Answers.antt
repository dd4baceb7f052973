use Rattle.mapchain_engine.proofs.SameBytes.{simplifies_of_same}
use Rattle.mapchain_engine.proofs.laws.simplified_text_is_built_of_same_bytes.Goals as goal

pub returns : goal.returns
returns c = simplifies_of_same c.layers_have_one_outcome.ensures.one c.read_layers_are_the_outcome.ensures c.simplified_text_is_built.ensures
