-- Corners in two places.
use Rattle.std.specs.Prelude.{◌≡◌, List, []}
use Rattle.std.specs.BinaryHeap.{IsUpperBound}
use Rattle.std.specs.declared.cmp.Reverse.{Reverse}
use Rattle.guarded_reduction.specs.declared.queue.entry.Entry.{Entry}
use Rattle.guarded_reduction.specs.Entries.{turned_cmp}

-- the first of some goes before all of the others, of which there are none where there are none of those
abbrev pub GoesFirst : List (Reverse Entry) → List (Reverse Entry) → Type 0
GoesFirst xs ys = ((e : Reverse Entry) → IsUpperBound turned_cmp e xs → IsUpperBound turned_cmp e ys) × (xs ≡ [] → ys ≡ [])
