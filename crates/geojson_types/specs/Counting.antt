-- What a reader counts, and how it counts on.
use Rattle.std.specs.Prelude.{ℕ, ◌+◌, ◌-◌, ◌^◌, Bool, min, if◌then◌else◌}
use Rattle.geojson_types.specs.declared.counts.Counts.{Counts}

-- nothing counted yet
abbrev pub no_counts : Counts
no_counts = record { rounded = 0; extra = 0; empty = 0 }

-- a count stays at the largest `u64`
abbrev pub one_more : ℕ → ℕ
one_more n = min (n + 1) (2 ^ 64 - 1)

-- a coordinate that was rounded is counted
abbrev pub count_rounded : Bool → Counts → Counts
count_rounded rounded c = if rounded then record { rounded = one_more c.rounded; extra = c.extra; empty = c.empty } else c

-- a position with further elements is counted
abbrev pub count_extra : Bool → Counts → Counts
count_extra extra c = if extra then record { rounded = c.rounded; extra = one_more c.extra; empty = c.empty } else c

-- an empty array is counted
abbrev pub count_empty : Counts → Counts
count_empty c = record { rounded = c.rounded; extra = c.extra; empty = one_more c.empty }
