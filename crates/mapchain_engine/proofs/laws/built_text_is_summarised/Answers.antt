use Rattle.mapchain_engine.proofs.BuiltAgain.{summarises_back}
use Rattle.mapchain_engine.proofs.laws.built_text_is_summarised.Goals as goal

pub returns : goal.returns
returns c = summarises_back c.one_value.ensures
