use Rattle.build_meaning.proofs.LeftOf.{keeps_labels}
use Rattle.build_meaning.proofs.left_laws.left_keeps.Goals as goal

pub returns : goal.returns
returns c = keeps_labels
