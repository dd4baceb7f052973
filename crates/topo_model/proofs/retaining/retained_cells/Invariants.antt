use Rattle.std.proofs.Common.{◌≡◌, take}
use Rattle.geometry.specs.Joins.{at}
use Rattle.geometry.specs.Lists.{some_of}
use Rattle.topo_model.proofs.retaining.retained_cells.Given as goal

abbrev pub invariant-numbers : goal.invariant-numbers
invariant-numbers l = l.stay.items ≡ some_of (at l.cells) (take l.number-index l.numbers)
