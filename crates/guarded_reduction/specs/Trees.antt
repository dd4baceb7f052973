-- A tree in numbers: the children of the node i are 2 i and 2 i + 1. As many as come last are leaves; the first have a box each, in a list.
use Rattle.std.specs.Prelude.{◌≡◌, ◌≢◌, ℕ, ◌+◌, ◌*◌, List, slice_index_or}
use Rattle.planar_predicates.specs.declared.extent.Extent.{Extent}
use Rattle.planar_predicates.specs.Extents.{no_extent}

unfoldable pub extent_at : List Extent → ℕ → Extent
extent_at es i = slice_index_or es i no_extent

-- the two lists differ at most at one place
pub record DiffersAt (k : ℕ) (es fs : List Extent) : Type 0 where
  pub same : (i : ℕ) → i ≢ k → extent_at fs i ≡ extent_at es i

-- the second number is the first, or its child, or a child's child, and so on
pub data Under : ℕ → ℕ → Type 0 where
  at_node : {i : ℕ} → Under i i
  by_left : {i j : ℕ} → Under (2 * i) j → Under i j
  by_right : {i j : ℕ} → Under (2 * i + 1) j → Under i j
