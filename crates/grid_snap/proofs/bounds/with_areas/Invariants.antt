use Rattle.geometry.specs.Lists.{joined}
use Rattle.grid_snap.proofs.Widening.{Left}
use Rattle.grid_snap.proofs.bounds.with_areas.Given as goal

abbrev pub invariant-areas : goal.invariant-areas
invariant-areas l = Left joined l.areas l.area-index l.fn.bounds l.all
