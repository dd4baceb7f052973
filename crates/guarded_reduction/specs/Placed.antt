-- What contracts see of the positions of places.
use Rattle.std.specs.Prelude.{◌≡◌, true, false, length}
use Rattle.guarded_reduction.specs.declared.places.shown_places.Places.{Places}
use Rattle.guarded_reduction.specs.declared.places.shown_places.Places.TheVariants.{Listed, Celled, Boxed}
use Rattle.guarded_reduction.specs.Cells.{AreCells}
use Rattle.guarded_reduction.specs.Indexes.{IsIndex}
use Rattle.guarded_reduction.specs.PlacedLists.{Placed}

-- the two lists, and those of the index
abbrev pub placed_in : Places → Placed
placed_in (Listed positions left) = record { positions = positions.items; left = left.items; indexed = false }
placed_in (Celled cells) = record { positions = cells.positions.items; left = cells.present.items; indexed = true }
placed_in (Boxed tree) = record { positions = tree.positions.items; left = tree.present.items; indexed = true }

-- each place is left or not, and those that are left are on the lists of their cells, or in the boxes over them
abbrev pub IsPaired : Places → Type 0
IsPaired (Listed positions left) = length left.items ≡ length positions.items
IsPaired (Celled cells) = AreCells cells
IsPaired (Boxed tree) = IsIndex tree
