-- An index: boxes over the places that are left.
use Rattle.std.specs.Prelude.{◌≡◌, ℕ, pos, ◌+◌, ◌<◌, ◌≤◌, Bool, true, false, List, length, slice_index_or, slice_index}
use Rattle.geometry.specs.Points.{Point}
use Rattle.planar_predicates.specs.declared.extent.Extent.{Extent}
use Rattle.guarded_reduction.specs.declared.index.box_tree.BoxTree.{BoxTree}
use Rattle.planar_predicates.specs.Extents.{HoldsPoint}
use Rattle.guarded_reduction.specs.Tests.{Test}
use Rattle.guarded_reduction.specs.Trees.{extent_at, Under}

abbrev pub origin : Point
origin = record { x = pos 0; y = pos 0 }

unfoldable pub point_at : List Point → ℕ → Point
point_at ps z = slice_index_or ps z origin

unfoldable pub is_left_at : List Bool → ℕ → Bool
is_left_at bs z = slice_index_or bs z false

-- ---- what a search is to find

-- the place is left and meets the test
pub record Meets (ps : List Point) (bs : List Bool) (test : Test) (z : ℕ) : Type 0 where
  pub within : z < length ps
  pub left : is_left_at bs z ≡ true
  pub meets : test z (point_at ps z) ≡ true

-- no place that is left meets the test
pub record NoneMeets (ps : List Point) (bs : List Bool) (test : Test) : Type 0 where
  pub fails : (z : ℕ) → z < length ps → is_left_at bs z ≡ true → test z (point_at ps z) ≡ false

-- ---- the index

-- places in some order, and the rank of each
pub record IsOrder (places ranks : List ℕ) (n : ℕ) : Type 0 where
  pub as_many_places : length places ≡ n
  pub as_many_ranks : length ranks ≡ n
  pub place : (r : ℕ) → r < n → slice_index places r < n
  pub rank : (z : ℕ) → z < n → slice_index ranks z < n
  pub back : (z : ℕ) → z < n → slice_index places (slice_index ranks z) ≡ z

-- each leaf has a place
pub record AreLeaves (ps : List Point) (bs : List Bool) (places : List ℕ) : Type 0 where
  pub present : length bs ≡ length ps
  pub as_many_places : length places ≡ length ps
  pub place : (r : ℕ) → r < length ps → slice_index places r < length ps

-- the box holds the positions of the places that are left under a node
pub record HoldsLeft (ps : List Point) (bs : List Bool) (places : List ℕ) (node : ℕ) (e : Extent) : Type 0 where
  pub holds : (r : ℕ) → r < length ps → is_left_at bs (slice_index places r) ≡ true → Under node (length ps + r) → HoldsPoint e (point_at ps (slice_index places r))

-- from a node on boxes hold what is left under them
pub record AreFitted (es : List Extent) (ps : List Point) (bs : List Bool) (places : List ℕ) (from : ℕ) : Type 0 where
  pub holds : (i : ℕ) → from ≤ i → i < length es → HoldsLeft ps bs places i (extent_at es i)

pub record IsIndex (x : BoxTree) : Type 0 where
  pub present : length x.present.items ≡ length x.positions.items
  pub order : IsOrder x.places.items x.ranks.items (length x.positions.items)
  pub few : length x.extents.items ≤ length x.positions.items
  pub fitted : AreFitted x.extents.items x.positions.items x.present.items x.places.items 1

-- no place that is left and lies under the node meets the test
pub record NoneMeetsUnder (x : BoxTree) (node : ℕ) (test : Test) : Type 0 where
  pub fails : (z : ℕ) → z < length x.positions.items → is_left_at x.present.items z ≡ true → Under node (length x.positions.items + slice_index x.ranks.items z) →
      test z (point_at x.positions.items z) ≡ false
