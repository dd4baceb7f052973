-- Links and entries.
use Rattle.std.specs.Prelude.{not, ◌==◌, ◌-◌, None, pred, ◌≡◌, ◌≢◌, ℕ, ◌+◌, ◌<◌, ◌≤◌, ◌⊎◌, List, [], ◌∷◌, ◌++◌, slice_index_or, Option, Some, Contains, length, Bool, false}
use Rattle.std.specs.BinaryHeap.{IsUpperBound}
use Rattle.std.specs.List.{filter, AllByRecursion}
use Rattle.std.specs.declared.cmp.Ordering.{Ordering}
use Rattle.geometry.specs.Lists.{In}
use Rattle.geometry.specs.Points.{Point}
use Rattle.elimination_meaning.specs.Elimination.{corner_at, corner_cmp, corners, eliminate, is_before, least, numbered, Corner}
use Rattle.effective_area.specs.Vertices.{origin, vertex_at, vertices}
use Rattle.effective_area.specs.declared.links.Link.{Link}
use Rattle.effective_area.specs.declared.entry.Entry.{Entry}
use Rattle.effective_area.specs.Chains.{Chain, last_of}

abbrev pub first_link : Link
first_link = record { before = 0; after = 0; area = 0 }

unfoldable pub after_in : List Link → ℕ → ℕ
after_in links i = (slice_index_or links i first_link).after

unfoldable pub before_in : List Link → ℕ → ℕ
before_in links i = (slice_index_or links i first_link).before

unfoldable pub area_in : List Link → ℕ → ℕ
area_in links i = (slice_index_or links i first_link).area

unfoldable pub entry_at : List Point → ℕ → ℕ → ℕ → Entry
entry_at ps b i a = record { area = (corner_at (vertex_at ps b) (vertex_at ps i) (vertex_at ps a)).area; index = i; before = b; after = a }

-- the entry's neighbours are the point's
pub record IsCurrent (links : List Link) (e : Entry) : Type 0 where
  pub within : e.index < length links
  pub before : before_in links e.index ≡ e.before
  pub after : after_in links e.index ≡ e.after

-- an entry that was once right, of a corner under the threshold
pub record IsSound (t : ℕ) (ps : List Point) (e : Entry) : Type 0 where
  pub is : e ≡ entry_at ps e.before e.index e.after
  pub before : e.before < e.index
  pub after : e.index < e.after
  pub within : e.after < length ps
  pub under : e.area < t

-- what is present, and linked in order
pub record IsLinked (links : List Link) (vs : List ℕ) : Type 0 where
  pub chain : Chain (after_in links) (before_in links) 0 vs
  pub last : last_of 0 vs + 1 ≡ length links
  pub gone : (i : ℕ) → 0 < i → i < length links → (In i vs → ⊥) → before_in links i ≡ i

-- the corner that an entry stands for
abbrev pub entry_corner : List Point → Entry → Corner
entry_corner ps e = record { area = e.area; point = slice_index_or ps e.index origin; index = e.index }

-- in a queue the corner that goes first comes last
abbrev pub queue_cmp : List Point → Entry → Entry → Ordering
queue_cmp ps d e = corner_cmp (entry_corner ps e) (entry_corner ps d)

-- the entry of an index with its present neighbours
abbrev pub entry_in : List Point → List Link → ℕ → Entry
entry_in ps links v = entry_at ps (before_in links v) v (after_in links v)

-- the corner at an index, with the cached area
unfoldable pub cached : List Point → List Link → ℕ → Corner
cached ps links v = record { area = area_in links v; point = slice_index_or ps v origin; index = v }

-- the areas of the corners that are present are cached, and the threshold for those of the ends
pub record AreCached (t : ℕ) (ps : List Point) (links : List Link) : Type 0 where
  pub between : (v : ℕ) → 0 < v → v + 1 < length links → before_in links v ≢ v → area_in links v ≡ (entry_in ps links v).area
  pub ends : (v : ℕ) → (v ≡ 0) ⊎ (v + 1 ≡ length links) → area_in links v ≡ t

-- a corner is due if it is under the threshold and neither neighbour goes before it
pub record IsDue (t : ℕ) (ps : List Point) (links : List Link) (v : ℕ) : Type 0 where
  pub later : 0 < v
  pub inside : v + 1 < length links
  pub under : (entry_in ps links v).area < t
  pub before : is_before (cached ps links (before_in links v)) (cached ps links v) ≡ false
  pub after : is_before (cached ps links (after_in links v)) (cached ps links v) ≡ false

-- each current corner that is due has its entry
abbrev pub Covers : ℕ → List Point → List Link → List Entry → Type 0
Covers t ps links items = (v : ℕ) → before_in links v ≢ v → IsDue t ps links v → Contains items (entry_in ps links v)

-- the first of the one list goes before all of the other
abbrev pub GoesFirst : List Point → List Entry → List Entry → Type 0
GoesFirst ps xs ys = ((e : Entry) → IsUpperBound (queue_cmp ps) e xs → IsUpperBound (queue_cmp ps) e ys) × (xs ≡ [] → ys ≡ [])

pub record SetsAfter (old new : List Link) (at to : ℕ) : Type 0 where
  pub same : length new ≡ length old
  pub here : after_in new at ≡ to
  pub others : (v : ℕ) → v ≢ at → after_in new v ≡ after_in old v
  pub befores : (v : ℕ) → before_in new v ≡ before_in old v
  pub areas : (v : ℕ) → area_in new v ≡ area_in old v

pub record SetsBefore (old new : List Link) (at to : ℕ) : Type 0 where
  pub same : length new ≡ length old
  pub here : before_in new at ≡ to
  pub others : (v : ℕ) → v ≢ at → before_in new v ≡ before_in old v
  pub afters : (v : ℕ) → after_in new v ≡ after_in old v
  pub areas : (v : ℕ) → area_in new v ≡ area_in old v

pub record SetsArea (old new : List Link) (at area : ℕ) : Type 0 where
  pub same : length new ≡ length old
  pub here : area_in new at ≡ area
  pub others : (v : ℕ) → v ≢ at → area_in new v ≡ area_in old v
  pub befores : (v : ℕ) → before_in new v ≡ before_in old v
  pub afters : (v : ℕ) → after_in new v ≡ after_in old v

-- the area at v is computed again, if v is between the ends
pub record CachesArea (ps : List Point) (old new : List Link) (v : ℕ) : Type 0 where
  pub same : length new ≡ length old
  pub here : 0 < v → v + 1 < length old → area_in new v ≡ (entry_in ps new v).area
  pub ends : (v ≡ 0) ⊎ (v + 1 ≡ length old) → area_in new v ≡ area_in old v
  pub others : (w : ℕ) → w ≢ v → area_in new w ≡ area_in old w
  pub befores : (w : ℕ) → before_in new w ≡ before_in old w
  pub afters : (w : ℕ) → after_in new w ≡ after_in old w

pub record Unlinks (old new : List Link) (b i a : ℕ) : Type 0 where
  pub same : length new ≡ length old
  pub bridge : after_in new b ≡ a
  pub others : (v : ℕ) → v ≢ b → after_in new v ≡ after_in old v
  pub bridge_back : before_in new a ≡ b
  pub out : before_in new i ≡ i
  pub others_back : (v : ℕ) → v ≢ a → v ≢ i → before_in new v ≡ before_in old v

-- what is taken is the first of the current entries, and those stay but for it
pub record LeavesCurrent (ps : List Point) (links : List Link) (old : List Entry) (taken : Option Entry) (new : List Entry) : Type 0 where
  pub first : (e d : Entry) → taken ≡ Some e → Contains old d → IsCurrent links d → is_before (entry_corner ps d) (entry_corner ps e) ≡ false
  pub stays : (d : Entry) → Contains old d → IsCurrent links d → (taken ≡ Some d) ⊎ Contains new d
  pub rest : (d : Entry) → Contains new d → Contains old d
  pub member : (e : Entry) → taken ≡ Some e → Contains old e

-- only stale ones are gone from the end
pub record DropsStale (links : List Link) (old new : List Entry) : Type 0 where
  pub ends : List Entry
  pub split : old ≡ new ++ ends
  pub stale : (d : Entry) → Contains ends d → IsCurrent links d → ⊥

-- the state of a reduction: vs is present after 0, and reducing it gives what is asked for
pub record IsState (t : ℕ) (ps : List Point) (links : List Link) (items : List Entry) (left : ℕ) (vs : List ℕ) : Type 0 where
  pub linked : IsLinked links vs
  pub size : length links ≡ length ps
  pub cached : AreCached t ps links
  pub covers : Covers t ps links items
  pub sound : (d : Entry) → Contains items d → IsSound t ps d
  pub many : length vs ≡ left + 1
  pub rest : eliminate (left + 2) t (vertices ps (0 ∷ vs)) ≡ eliminate (length ps) t (numbered 0 ps)

-- of those that are present, this first corner was removed, and this is the state after it
pub record IsRemoved (t : ℕ) (ps : List Point) (links : List Link) (items : List Entry) (left : ℕ) (vs : List ℕ) (c : Entry) : Type 0 where
  pub some : 0 < left
  pub first : least (corners (vertices ps (0 ∷ vs))) ≡ Some (entry_corner ps c)
  pub present : In c.index vs
  pub later : 0 < c.index
  pub within : c.index < length ps
  pub rest : IsState t ps links items (left - 1) (filter (λ v. not (v == c.index)) vs)

-- the first corner is removed, or none is under the threshold
abbrev pub RemovesFirst : ℕ → List Point → List Link → List Entry → ℕ → List ℕ → Option Entry → Type 0
RemovesFirst t ps links items left vs (Some c) = IsRemoved t ps links items left vs c
RemovesFirst t ps links items left vs None = IsLinked links vs × AllByRecursion (λ c. t ≤ c.area) (corners (vertices ps (0 ∷ vs)))

pub record IsFirst (links : List Link) (n : ℕ) : Type 0 where
  pub size : length links ≡ n
  pub befores : (v : ℕ) → v < n → before_in links v ≡ pred v
  pub afters : (v : ℕ) → v < n → after_in links v ≡ v + 1

-- the corner at v has its neighbours on both sides
pub record Fits (links : List Link) (n v : ℕ) : Type 0 where
  pub before : before_in links v < v
  pub after : v < after_in links v
  pub within : after_in links v < n

-- it is the entry of a corner under the threshold
abbrev pub IsUnder : ℕ → List Point → List Link → ℕ → Entry → Type 0
IsUnder t ps links v d = (0 < v) × (v + 1 < length links) × (d ≡ entry_in ps links v) × (d.area < t)

-- what is needed of v to compare the corner there: it has its neighbours and its area is cached, if it is between the ends
pub record IsReady (ps : List Point) (links : List Link) (v : ℕ) : Type 0 where
  pub within : v < length links
  pub fits : 0 < v → v + 1 < length links → Fits links (length ps) v
  pub cached : 0 < v → v + 1 < length links → area_in links v ≡ (entry_in ps links v).area

-- the corner at v is new, if it is due
pub record Pushed (t : ℕ) (ps : List Point) (links : List Link) (old new : List Entry) (v : ℕ) : Type 0 where
  pub has : (d : Entry) → Contains old d → Contains new d
  pub here : IsDue t ps links v → Contains new (entry_in ps links v)
  pub only : (d : Entry) → Contains new d → Contains old d ⊎ IsUnder t ps links v d

-- of two neighbours the one that goes first is new, if it is due; the outer one need not be, if its entry was queued before
pub record PushedFirst (t : ℕ) (ps : List Point) (links : List Link) (old new : List Entry) (v w : ℕ) (known : Bool) : Type 0 where
  pub has : (d : Entry) → Contains old d → Contains new d
  pub inner : IsDue t ps links v → (before_in links v ≡ w) ⊎ (after_in links v ≡ w) → Contains new (entry_in ps links v)
  pub outer : known ≡ false → v ≢ w → IsDue t ps links w → (before_in links w ≡ v) ⊎ (after_in links w ≡ v) → Contains new (entry_in ps links w)
  pub only : (d : Entry) → Contains new d → Contains old d ⊎ (IsUnder t ps links v d ⊎ IsUnder t ps links w d)

-- the corners before n that are due, and none that isn't under the threshold
pub record HasCorners (t : ℕ) (ps : List Point) (links : List Link) (items : List Entry) (n : ℕ) : Type 0 where
  pub has : (v : ℕ) → v < n → IsDue t ps links v → Contains items (entry_in ps links v)
  pub only : (d : Entry) → Contains items d → (v : ℕ) × (0 < v) × (v < n) × (d ≡ entry_in ps links v) × (d.area < t)
