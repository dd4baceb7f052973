-- Weights that are reported up to a level only.
use Rattle.std.specs.Prelude.{◌≡◌, ℕ, ◌+◌, ◌*◌, ◌<◌, ◌≤◌, ◌⊎◌, nat_le, min, Bool, false, List, [], ◌∷◌, count_by, map, length, slice_index_or}
use Rattle.effective_area.specs.Shares.{interior_weights, kept_at, share}
use Rattle.effective_area.specs.declared.weight.Weight.{Weight}
use Rattle.effective_area.specs.declared.weight.Weight.TheVariants.{End, Area}

-- ---- weights of one line

-- one over the level becomes the level
abbrev pub capped_at : ℕ → Weight → Weight
capped_at level End = End
capped_at level (Area area) = Area (min level area)

-- it is that of a position between the ends, and not over the level
abbrev pub is_within : ℕ → Weight → Bool
is_within level End = false
is_within level (Area area) = nat_le area level

-- the weights of a line are reported up to a level, and so many of them aren't over it
pub record IsStopped (most : ℕ) (ws reported : List Weight) : Type 0 where
  pub level : ℕ
  pub capped : reported ≡ map (capped_at level) ws
  pub enough : most ≤ count_by (is_within level) ws

-- all weights of a line are reported, or they are up to such a level
abbrev pub IsCapped : ℕ → List Weight → List Weight → Type 0
IsCapped most ws reported = (reported ≡ ws) ⊎ IsStopped most ws reported

-- ---- shares of them

-- all weights of each of these lines are reported, or they are up to such a level
abbrev pub AreCapped : ℕ → List (List Weight) → List (List Weight) → Type 0
AreCapped most [] [] = Unit {0}
AreCapped most [] (reported ∷ capped) = ⊥
AreCapped most (ws ∷ lines) [] = ⊥
AreCapped most (ws ∷ lines) (reported ∷ capped) = IsCapped most ws reported × AreCapped most lines capped

-- of so many weights as many are enough as are left beside the fewest, one at least, that are p / q of them, and one more
abbrev pub IsEnough : ℕ → ℕ → ℕ → ℕ → Type 0
IsEnough p q count most = (n : ℕ) → 0 < n → p * count ≤ q * n → count < n + most

-- the threshold of a share is found by the weights that are reported, and so is what stays at it
abbrev pub CappedIsEnough : Type 0
CappedIsEnough = (p q count most : ℕ) (lines capped : List (List Weight)) → p ≤ q → length (interior_weights lines) ≤ count → IsEnough p q count most → AreCapped most lines capped →
    (share p q (interior_weights capped) ≡ share p q (interior_weights lines))
    × (map (kept_at (share p q (interior_weights lines))) capped ≡ map (kept_at (share p q (interior_weights lines))) lines)

-- ---- while they are found

-- a weight that isn't found yet becomes the level
abbrev pub or_area : ℕ → Weight → Weight
or_area level End = Area level
or_area level (Area area) = Area area

-- the weights between the ends that weren't found yet became the level, and the others stay
pub record AreFilled (level : ℕ) (old new : List Weight) : Type 0 where
  pub size : length new ≡ length old
  pub between : (i : ℕ) → 0 < i → i + 1 < length old → slice_index_or new i End ≡ or_area level (slice_index_or old i End)
  pub ends : (i : ℕ) → (i ≡ 0) ⊎ (i + 1 ≡ length old) → slice_index_or new i End ≡ slice_index_or old i End

-- weights are found up to a level, and these are all, or so many
pub record IsFoundTo (most level : ℕ) (ws found : List Weight) : Type 0 where
  pub size : length found ≡ length ws
  pub between : (i : ℕ) → 0 < i → i + 1 < length ws → or_area level (slice_index_or found i End) ≡ capped_at level (slice_index_or ws i End)
  pub ends : (i : ℕ) → (i ≡ 0) ⊎ (i + 1 ≡ length ws) → (slice_index_or found i End ≡ End) × (slice_index_or ws i End ≡ End)
  pub enough : (found ≡ ws) ⊎ (most ≤ count_by (is_within level) ws)
