use Rattle.std.proofs.Common.{◌<◌, length}
use Rattle.guarded_reduction.specs.Blocked.{blocking}
use Rattle.guarded_reduction.specs.Cells.{IsOn, NoneMeetsOn}
use Rattle.guarded_reduction.proofs.index.cell_search.find_on_list.Given as goal

-- those before on the list don't meet the test
abbrev pub invariant-places : goal.invariant-places
invariant-places l = record {
  on : 0 < l.number → IsOn l.cells.grid.bits l.cells.grid.mask l.cells.positions.items (length l.cells.positions.items) l.list l.number;
  none : NoneMeetsOn l.cells (blocking l.query) l.list l.number;
}

abbrev pub decreases-places : goal.decreases-places
decreases-places l = l.number
