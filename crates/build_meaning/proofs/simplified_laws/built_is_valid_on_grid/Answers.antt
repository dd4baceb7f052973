use Rattle.build_meaning.proofs.ValidCelled.{built_is_valid}
use Rattle.build_meaning.proofs.simplified_laws.built_is_valid_on_grid.Goals as goal

pub returns : goal.returns
returns c transform cell t limit ls numbers sound distinct on = built_is_valid c.built_is_valid.ensures c.nothing_is_new.ensures transform cell t limit ls numbers sound distinct on
