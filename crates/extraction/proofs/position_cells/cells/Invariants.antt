use Rattle.std.proofs.Common.{◌≡◌, take}
use Rattle.extraction.proofs.position_cells.cells.Given as goal

abbrev pub invariant-positions : goal.invariant-positions
invariant-positions l = l.read.items ≡ take l.position-index l.positions
