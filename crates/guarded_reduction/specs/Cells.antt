-- Lists of places by the square cells that their positions lie in.
use Rattle.std.specs.Prelude.{◌≡◌, ℕ, ℤ, pos, ◌-ℤ◌, ◌≤ℤ◌, ◌+◌, ◌-◌, ◌*◌, ◌/◌, ◌%◌, ◌^◌, ◌<◌, ◌≤◌, Bool, true, false, List, length, slice_index, unsigned_abs}
use Rattle.std.specs.Int.Bits.{bit_and}
use Rattle.geometry.specs.Points.{Point}
use Rattle.guarded_reduction.specs.declared.index.cell_lists.CellLists.{CellLists}
use Rattle.guarded_reduction.specs.declared.index.cell_lists.Grid.{Grid}
use Rattle.guarded_reduction.specs.declared.index.cell_search.CellRange.{CellRange}
use Rattle.planar_predicates.specs.declared.extent.Extent.{Extent}
use Rattle.guarded_reduction.specs.Indexes.{is_left_at, point_at}
use Rattle.guarded_reduction.specs.Tests.{Test}

-- ---- the list of a position

abbrev pub least : ℤ
least = pos 0 -ℤ pos 9223372036854775808

-- the number of the cell along one coordinate, counted from the least number
unfoldable pub cell_along : ℕ → ℤ → ℕ
cell_along bits x = unsigned_abs (x -ℤ least) / 2 / 2 ^ bits

-- a first one for the row, and so many after it
unfoldable pub list_of : ℕ → ℕ → ℕ → ℕ
list_of mask column row = bit_and ((row * 11400714819323198485 % 2 ^ 64 / 2 ^ 32 + column) % 2 ^ 64) mask

unfoldable pub list_at : ℕ → ℕ → Point → ℕ
list_at bits mask p = list_of mask (cell_along bits p.x) (cell_along bits p.y)

-- ---- lists

-- the place of this number, counted from one, is among the first n, and on this list
pub record IsOn (bits mask : ℕ) (ps : List Point) (n list number : ℕ) : Type 0 where
  pub within : number ≤ n
  pub list_is : list_at bits mask (point_at ps (number - 1)) ≡ list

-- those of the first n places that are left are on the lists of their cells, the last one first; the others have a next place, too
pub record AreChained (bits mask : ℕ) (ps : List Point) (bs : List Bool) (firsts nexts : List ℕ) (n : ℕ) : Type 0 where
  pub many : length nexts ≡ n
  pub first : (z : ℕ) → z < n → is_left_at bs z ≡ true → z < slice_index firsts (list_at bits mask (point_at ps z))
  pub next : (y z : ℕ) → y < z → z < n → is_left_at bs y ≡ true → list_at bits mask (point_at ps y) ≡ list_at bits mask (point_at ps z) → y < slice_index nexts z
  pub on_first : (list : ℕ) → 0 < slice_index firsts list → IsOn bits mask ps n list (slice_index firsts list)
  pub on_next : (z : ℕ) → z < n → 0 < slice_index nexts z → IsOn bits mask ps z (list_at bits mask (point_at ps z)) (slice_index nexts z)

pub record IsGrid (ps : List Point) (bs : List Bool) (g : Grid) : Type 0 where
  pub bits : g.bits < 64
  pub mask : g.mask < length g.firsts.items
  pub chained : AreChained g.bits g.mask ps bs g.firsts.items g.nexts.items (length ps)

pub record AreCells (x : CellLists) : Type 0 where
  pub present : length x.present.items ≡ length x.positions.items
  pub grid : IsGrid x.positions.items x.present.items x.grid

-- the positions of the box lie in these columns and rows of cells
pub record AreCellsOf (bits : ℕ) (e : Extent) (r : CellRange) : Type 0 where
  pub left : (k : ℤ) → e.low_x ≤ℤ k → r.low ≤ cell_along bits k
  pub right : (k : ℤ) → e.low_x ≤ℤ k → k ≤ℤ e.high_x → cell_along bits k < r.high
  pub below : (k : ℤ) → e.low_y ≤ℤ k → r.low_row ≤ cell_along bits k
  pub above : (k : ℤ) → e.low_y ≤ℤ k → k ≤ℤ e.high_y → cell_along bits k < r.high_row

-- ---- what a search has shown

-- no place of this list from this number on, counted from one, is left and meets the test
pub record NoneMeetsOn (x : CellLists) (test : Test) (list from : ℕ) : Type 0 where
  pub fails : (z : ℕ) → from ≤ z → z < length x.positions.items → list_at x.grid.bits x.grid.mask (point_at x.positions.items z) ≡ list → is_left_at x.present.items z ≡ true → test z (point_at x.positions.items z) ≡ false

-- none in the cells of this row from one column on until before another
pub record NoneMeetsInRow (x : CellLists) (test : Test) (row low high : ℕ) : Type 0 where
  pub fails : (z : ℕ) → z < length x.positions.items → is_left_at x.present.items z ≡ true → cell_along x.grid.bits (point_at x.positions.items z).y ≡ row → low ≤ cell_along x.grid.bits (point_at x.positions.items z).x →
      cell_along x.grid.bits (point_at x.positions.items z).x < high → test z (point_at x.positions.items z) ≡ false

-- none in those of the rows from one on until before another
pub record NoneMeetsInRows (x : CellLists) (test : Test) (low high low_row high_row : ℕ) : Type 0 where
  pub fails : (row : ℕ) → low_row ≤ row → row < high_row → NoneMeetsInRow x test row low high
