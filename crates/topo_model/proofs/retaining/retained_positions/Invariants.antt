use Rattle.std.proofs.Common.{◌≡◌, take}
use Rattle.geometry.specs.Joins.{at}
use Rattle.geometry.specs.Lists.{some_of}
use Rattle.topo_model.proofs.retaining.retained_positions.Given as goal

abbrev pub invariant-numbers : goal.invariant-numbers
invariant-numbers l = l.cells.items ≡ some_of (at l.positions) (take l.number-index l.numbers)
