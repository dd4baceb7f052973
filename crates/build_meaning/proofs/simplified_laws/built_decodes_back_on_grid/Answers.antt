use Rattle.build_meaning.proofs.CelledDecoding.{decodes_back}
use Rattle.build_meaning.proofs.simplified_laws.built_decodes_back_on_grid.Goals as goal

pub returns : goal.returns
returns c transform cell t limit ls sound distinct lie = decodes_back c.built_decodes_back.ensures c.nothing_is_new.ensures transform cell t limit ls sound distinct lie
