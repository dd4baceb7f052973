use Rattle.geometry.specs.Rings.{same}
use Rattle.geometry.proofs.position.is_same.Goals as goal

pub returns : goal.returns
returns c = unfold same in c.eq.ensures
