use Rattle.guarded_reduction.proofs.Cells.{cells_without}
use Rattle.guarded_reduction.proofs.index.cell_lists.CellLists.remove.Goals as goal

pub returns-clause-cells : goal.returns-clause-cells
returns-clause-cells c = cells_without c.args.self.now c.args.place c.requires.cells c.requires.within
