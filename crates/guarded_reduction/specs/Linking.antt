-- Places that are left, linked to their neighbours.
use Rattle.std.specs.Prelude.{◌≡◌, ◌≢◌, ℕ, ◌<◌, ◌^◌, Bool, true, false, List, length, slice_index, slice_index_or, slice_set}
use Rattle.geometry.specs.Lists.{joined}
use Rattle.geometry.specs.Points.{Point}
use Rattle.guarded_reduction.specs.declared.index.corner.Corner.{Corner}
use Rattle.guarded_reduction.specs.Indexes.{is_left_at, point_at}
use Rattle.guarded_reduction.specs.Laws.{Shows, ShowsOnly}
use Rattle.guarded_reduction.specs.Numbers.{number, left_arcs}

-- the positions of all places, which places are left, and the neighbours of these: the place itself where there is none; whether crossings are
-- to be avoided, and which places stay for good
pub record Linked : Type 0 where
  pub positions : List Point
  pub left : List Bool
  pub befores : List ℕ
  pub afters : List ℕ
  pub no_crossings : Bool
  pub fixed : List Bool

-- the place stays for good
unfoldable pub is_fixed : Linked → ℕ → Bool
is_fixed s z = slice_index_or s.fixed z false

-- each list has an element for each place, neighbours are places, and an index has room for them
pub record IsWhole (s : Linked) : Type 0 where
  pub few : length s.positions < 2 ^ 32
  pub left : length s.left ≡ length s.positions
  pub befores : length s.befores ≡ length s.positions
  pub afters : length s.afters ≡ length s.positions
  pub fixed : length s.fixed ≡ length s.positions
  pub before : (z : ℕ) → z < length s.positions → slice_index s.befores z < length s.positions
  pub after : (z : ℕ) → z < length s.positions → slice_index s.afters z < length s.positions

-- the corner at a place, as the index is asked for it
abbrev pub corner_in : Linked → ℕ → Corner
corner_in s z = record { before = point_at s.positions (slice_index s.befores z); at = point_at s.positions z; after = point_at s.positions (slice_index s.afters z); place = z }

-- without the place, whose neighbours become each other's
abbrev pub unlinked : ℕ → Linked → Linked
unlinked z s = record {
  positions = s.positions;
  left = slice_set s.left z false;
  befores = slice_set s.befores (slice_index s.afters z) (slice_index s.befores z);
  afters = slice_set s.afters (slice_index s.befores z) (slice_index s.afters z);
  no_crossings = s.no_crossings;
  fixed = s.fixed;
}

-- these places stay for good
abbrev pub fixed_to : List Bool → Linked → Linked
fixed_to fs s = record { positions = s.positions; left = s.left; befores = s.befores; afters = s.afters; no_crossings = s.no_crossings; fixed = fs }

-- and this one
abbrev pub fixed_at : ℕ → Linked → Linked
fixed_at z s = fixed_to (slice_set s.fixed z true) s

-- the place is left and has a neighbour on either side
pub record IsCorner (s : Linked) (z : ℕ) : Type 0 where
  pub within : z < length s.positions
  pub left : is_left_at s.left z ≡ true
  pub before : slice_index s.befores z ≢ z
  pub after : slice_index s.afters z ≢ z

-- a place is the one after the place before it, and the one before the place after it, and both are left
pub record IsChained (s : Linked) : Type 0 where
  pub before : (z : ℕ) → z < length s.positions → is_left_at s.left z ≡ true → slice_index s.befores z ≢ z →
      (is_left_at s.left (slice_index s.befores z) ≡ true) × (slice_index s.afters (slice_index s.befores z) ≡ z)
  pub after : (z : ℕ) → z < length s.positions → is_left_at s.left z ≡ true → slice_index s.afters z ≢ z →
      (is_left_at s.left (slice_index s.afters z) ≡ true) × (slice_index s.befores (slice_index s.afters z) ≡ z)

-- the lists show these arcs, as far as they are left, and nothing else
pub record IsShowing (arcs : List (List Point)) (s : Linked) : Type 0 where
  pub positions : s.positions ≡ joined arcs
  pub shows : Shows (number arcs) s.positions s.left s.befores s.afters (left_arcs arcs s.left)
  pub only : ShowsOnly (number arcs) s.positions s.left s.befores s.afters (left_arcs arcs s.left)
