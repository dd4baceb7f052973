use Rattle.build_meaning.proofs.ValidSimplified.{built_is_valid}
use Rattle.build_meaning.proofs.built_laws.built_is_valid.Goals as goal

pub returns : goal.returns
returns c t limit ls sound distinct = built_is_valid c.ends_stay.ensures c.nothing_is_new.ensures t limit ls sound distinct
