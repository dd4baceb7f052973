use Rattle.mapchain_engine.proofs.ComingBack.{comes_back}
use Rattle.mapchain_engine.proofs.laws.built_text_comes_back.Goals as goal

pub returns : goal.returns
returns c = comes_back
