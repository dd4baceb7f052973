-- The order of places.
use Rattle.std.specs.Prelude.{◌≡◌, ℕ, ◌<◌, List, length, slice_index}
use Rattle.guarded_reduction.specs.declared.index.ordering.Key.{Key}

abbrev pub place_of : Key → ℕ
place_of k = k.place

-- for each of the first n places there is a rank, where it stands among the places
pub record AreRanks (places ranks : List ℕ) (n : ℕ) : Type 0 where
  pub within : (r : ℕ) → r < n → slice_index ranks (slice_index places r) < length places
  pub back : (r : ℕ) → r < n → slice_index places (slice_index ranks (slice_index places r)) ≡ slice_index places r
