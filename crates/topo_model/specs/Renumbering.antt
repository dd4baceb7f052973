-- Arc indexes where some arcs are left out, by the new index of each arc.
use Rattle.std.specs.Prelude.{ℤ, pos, negsuc, ◌-ℤ◌, List, Option, None, Some, slice_get}
use Rattle.geometry.specs.Joins.{number_of}

-- the index of an arc, or its ones' complement where the arc is meant reversed
abbrev pub directed_as : ℤ → ℤ → ℤ
directed_as (pos i) new_index = new_index
directed_as (negsuc i) new_index = negsuc 0 -ℤ new_index

-- the new index for one, where the list has one
abbrev pub by_new_index : ℤ → Option ℤ → ℤ
by_new_index r None = r
by_new_index r (Some new_index) = directed_as r new_index

-- the index of the same arc in the same direction, where the list has the new index of each arc
abbrev pub renumbered_by : List ℤ → ℤ → ℤ
renumbered_by renumbering r = by_new_index r (slice_get renumbering (number_of r))
