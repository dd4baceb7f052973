-- Cells in place of positions.
use Rattle.std.specs.Prelude.{if◌then◌else◌}
use Rattle.geometry.specs.Points.{Point}
use Rattle.grid_snap.specs.Axes.{Axes, covers, cell}

-- the cell of a position that the grid covers; another position stays
abbrev pub cell_if_covered : Axes → Point → Point
cell_if_covered g p = if covers g p then cell g p else p
