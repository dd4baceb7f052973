-- What is kept true while corners go.
use Rattle.std.specs.Prelude.{◌≡◌, ◌≢◌, ◌⊎◌, ℕ, ◌<◌, true, false, List, length, slice_index_or}
use Rattle.std.specs.List.{Contains}
use Rattle.std.specs.Ordering.{is_lt}
use Rattle.std.specs.declared.cmp.Reverse.{Reverse}
use Rattle.geometry.specs.Rings.{same}
use Rattle.geometry.specs.Units.{area_limit}
use Rattle.guarded_reduction.specs.declared.index.corner.Corner.{Corner}
use Rattle.guarded_reduction.specs.Blocking.{is_blocked_by, leads_on}
use Rattle.guarded_reduction.specs.Indexes.{NoneMeets, is_left_at, point_at}
use Rattle.guarded_reduction.specs.Tests.{Test, is_held_by}
use Rattle.guarded_reduction.specs.declared.queue.entry.Entry.{Entry}
use Rattle.guarded_reduction.specs.Entries.{entry_cmp, turned, entry_in, IsDue, IsSound}
use Rattle.guarded_reduction.specs.Linking.{Linked, IsCorner, corner_in, fixed_to, is_fixed}
use Rattle.guarded_reduction.specs.Moves.{Counted, keeps_all}
use Rattle.guarded_reduction.specs.Waiting.{Waiting, WaitsOn}

-- which places block a corner
abbrev pub blocks : Linked → ℕ → Test
blocks s v = is_blocked_by s.positions s.befores s.afters (corner_in s v)

-- the segment from the holder leads to this neighbour of it: it joins the positions before and after the corner, which are two, and the corner's own
-- place is no end of it
pub record IsOtherEnd (s : Linked) (c : Corner) (holder end : ℕ) : Type 0 where
  pub apart : same c.before c.after ≡ false
  pub at : same c.before (point_at s.positions holder) ≡ true
  pub other : holder ≢ c.place
  pub leads : leads_on s.positions c.after c.place end ≡ true
  pub beside : (slice_index_or s.befores holder c.place ≡ end) ⊎ (slice_index_or s.afters holder c.place ≡ end)

-- by a segment: the corner waits on its other end too
pub record HoldsByLink (s : Linked) (w : Waiting) (v holder : ℕ) : Type 0 where
  pub end : ℕ
  pub joins : IsOtherEnd s (corner_in s v) holder end
  pub waits : WaitsOn w end v

-- a place that is left keeps the corner from going without a crossing, and the corner waits on it
pub record IsHeld (s : Linked) (w : Waiting) (v : ℕ) : Type 0 where
  pub asked : s.no_crossings ≡ true
  pub holder : ℕ
  pub within : holder < length s.positions
  pub left : is_left_at s.left holder ≡ true
  pub waits : WaitsOn w holder v
  pub holds : (is_held_by (corner_in s v) holder (point_at s.positions holder) ≡ true) ⊎ HoldsByLink s w v holder

-- each corner under the threshold is queued, or held
pub record IsQueued (t : ℕ) (s : Linked) (items : List (Reverse Entry)) (w : Waiting) : Type 0 where
  pub covers : (v : ℕ) → IsDue t s v → Contains items (turned (entry_in s v)) ⊎ IsHeld s w v
  pub sound : (e : Entry) → Contains items (turned e) → IsSound t s.positions e
  pub firsts : length w.firsts ≡ length s.positions

-- the entry is of the corner that goes next, if its rings stay: nothing blocks it, where crossings are to be avoided, and those that are queued don't
-- go before it
pub record IsNext (t : ℕ) (s : Linked) (items : List (Reverse Entry)) (w : Waiting) (e : Entry) : Type 0 where
  pub due : IsDue t s e.place
  pub is : e ≡ entry_in s e.place
  pub free : s.no_crossings ≡ true → NoneMeets s.positions s.left (blocks s e.place)
  pub first : (d : Entry) → Contains items (turned d) → is_lt (entry_cmp d e) ≡ false
  pub covers : (v : ℕ) → IsDue t s v → (v ≡ e.place) ⊎ (Contains items (turned (entry_in s v)) ⊎ IsHeld s w v)
  pub sound : (d : Entry) → Contains items (turned d) → IsSound t s.positions d
  pub firsts : length w.firsts ≡ length s.positions

-- each corner under the threshold is held
pub record NoneNext (t : ℕ) (s : Linked) (w : Waiting) : Type 0 where
  pub held : (v : ℕ) → IsDue t s v → IsHeld s w v
  pub firsts : length w.firsts ≡ length s.positions

-- the corner at the place is queued, if it is due, and nothing else is new
pub record Pushed (t : ℕ) (s : Linked) (old new : List (Reverse Entry)) (v : ℕ) : Type 0 where
  pub has : (d : Entry) → Contains old (turned d) → Contains new (turned d)
  pub here : IsDue t s v → Contains new (turned (entry_in s v))
  pub only : (d : Entry) → Contains new (turned d) → Contains old (turned d) ⊎ IsSound t s.positions d
  pub below : IsCorner s v → (entry_in s v).area < area_limit

-- the corner at the place is queued, if it is due and its area isn't under the first threshold, and nothing else is new
pub record PushedFrom (from t : ℕ) (s : Linked) (old new : List (Reverse Entry)) (v : ℕ) : Type 0 where
  pub has : (d : Entry) → Contains old (turned d) → Contains new (turned d)
  pub here : IsDue t s v → ((entry_in s v).area < from) ⊎ Contains new (turned (entry_in s v))
  pub only : (d : Entry) → Contains new (turned d) → Contains old (turned d) ⊎ IsSound t s.positions d
  pub below : IsCorner s v → (entry_in s v).area < area_limit

-- all corners that wait on the place are queued, if they are due
pub record PushedAll (t : ℕ) (s : Linked) (old new : List (Reverse Entry)) (w : Waiting) (h : ℕ) : Type 0 where
  pub has : (d : Entry) → Contains old (turned d) → Contains new (turned d)
  pub here : (v : ℕ) → WaitsOn w h v → IsDue t s v → Contains new (turned (entry_in s v))
  pub only : (d : Entry) → Contains new (turned d) → Contains old (turned d) ⊎ IsSound t s.positions d

-- more places stay for good, each at a corner with which not all rings would stay
pub record IsFixing (old : Linked) (g : Counted) (new : Linked) : Type 0 where
  pub same : new ≡ fixed_to new.fixed old
  pub many : length new.fixed ≡ length old.fixed
  pub fixed : (v : ℕ) → is_fixed new v ≡ true → (is_fixed old v ≡ true) ⊎ (IsCorner old v × (keeps_all old v g ≡ false))
