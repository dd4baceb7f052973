-- Corners that are to be looked at.
use Rattle.std.specs.Prelude.{◌≡◌, ◌≢◌, ℕ, ◌<◌, true, false, List, length, slice_index}
use Rattle.std.specs.Ordering.{ordering_then, nat_cmp}
use Rattle.std.specs.declared.cmp.Ordering.{Ordering}
use Rattle.std.specs.declared.cmp.Reverse.{Reverse}
use Rattle.geometry.specs.Areas.{twice_area}
use Rattle.geometry.specs.Order.{point_cmp}
use Rattle.geometry.specs.Points.{Point}
use Rattle.geometry.specs.Units.{area_limit}
use Rattle.guarded_reduction.specs.Indexes.{is_left_at, point_at}
use Rattle.guarded_reduction.specs.declared.queue.entry.Entry.{Entry}
use Rattle.guarded_reduction.specs.Linking.{Linked, IsCorner, is_fixed}

abbrev pub entry_cmp : Entry → Entry → Ordering
entry_cmp d e = ordering_then (nat_cmp d.area e.area) (ordering_then (point_cmp d.at e.at) (ordering_then (nat_cmp d.place e.place) (ordering_then (nat_cmp d.before e.before) (nat_cmp d.after e.after))))

abbrev pub turned_cmp : Reverse Entry → Reverse Entry → Ordering
turned_cmp d e = entry_cmp e.0 d.0

abbrev pub turned : Entry → Reverse Entry
turned e = record { 0 = e }

-- the corner at a place between two others
abbrev pub entry_at : List Point → ℕ → ℕ → ℕ → Entry
entry_at ps b z a = record { area = twice_area (point_at ps b) (point_at ps z) (point_at ps a); at = point_at ps z; place = z; before = b; after = a }

-- the corner at a place between its neighbours
abbrev pub entry_in : Linked → ℕ → Entry
entry_in s z = entry_at s.positions (slice_index s.befores z) z (slice_index s.afters z)

-- there is a corner at the place, which is under the threshold and doesn't stay for good
pub record IsDue (t : ℕ) (s : Linked) (z : ℕ) : Type 0 where
  pub corner : IsCorner s z
  pub under : (entry_in s z).area < t
  pub loose : is_fixed s z ≡ false

-- the areas of all corners are below the greatest
abbrev pub AreBelow : Linked → Type 0
AreBelow s = (z : ℕ) → IsCorner s z → (entry_in s z).area < area_limit

-- the place is left, doesn't stay for good, and its neighbours are the entry's
pub record IsCurrent (s : Linked) (e : Entry) : Type 0 where
  pub within : e.place < length s.positions
  pub left : is_left_at s.left e.place ≡ true
  pub before : slice_index s.befores e.place ≡ e.before
  pub after : slice_index s.afters e.place ≡ e.after
  pub loose : is_fixed s e.place ≡ false

-- an entry that was once right, of a corner under the threshold
pub record IsSound (t : ℕ) (ps : List Point) (e : Entry) : Type 0 where
  pub is : e ≡ entry_at ps e.before e.place e.after
  pub before : e.before ≢ e.place
  pub after : e.after ≢ e.place
  pub under : e.area < t
