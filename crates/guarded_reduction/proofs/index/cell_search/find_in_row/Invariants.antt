use Rattle.guarded_reduction.specs.Blocked.{blocking}
use Rattle.guarded_reduction.specs.Cells.{NoneMeetsInRow}
use Rattle.guarded_reduction.proofs.index.cell_search.find_in_row.Given as goal

-- none in the cells so far
abbrev pub invariant-columns : goal.invariant-columns
invariant-columns l = NoneMeetsInRow l.cells (blocking l.query) l.row l.low l.column
