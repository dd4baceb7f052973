use Rattle.mapchain_engine.proofs.BuiltAgain.{decodes_back}
use Rattle.mapchain_engine.proofs.laws.built_text_decodes_back.Goals as goal

pub returns : goal.returns
returns c = decodes_back c.one_value.ensures
