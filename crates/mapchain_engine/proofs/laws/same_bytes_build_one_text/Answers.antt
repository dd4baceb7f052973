use Rattle.mapchain_engine.proofs.SameBytes.{builds_one_text}
use Rattle.mapchain_engine.proofs.laws.same_bytes_build_one_text.Goals as goal

pub returns : goal.returns
returns c = builds_one_text c.layers_have_one_outcome.ensures.one c.read_layers_are_the_outcome.ensures
