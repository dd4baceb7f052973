-- Shapes with their lines and rings replaced, by kind.
use Rattle.geometry.proofs.ByKind.{AtKinds, at_kinds}
use Rattle.extraction.specs.Extracts.{RefsOf, relined_step, relined}

pub relined_at : (f : RefsOf) → AtKinds (relined f) (relined_step f)
relined_at f = unfold relined in at_kinds (relined_step f)
