use Rattle.guarded_reduction.specs.Blocked.{blocking}
use Rattle.guarded_reduction.specs.Cells.{NoneMeetsInRows}
use Rattle.guarded_reduction.proofs.index.cell_lists.CellLists.find.Given as goal

-- none in the rows so far
abbrev pub invariant-rows : goal.invariant-rows
invariant-rows l = NoneMeetsInRows l.self (blocking l.query) l.range.low l.range.high l.range.low_row l.row
