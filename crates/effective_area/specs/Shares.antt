-- The threshold at which a share of the positions between the ends stays.
use Rattle.std.specs.Prelude.{◌≡◌, ℕ, ◌*◌, ◌<◌, ◌≤◌, ◌⊎◌, nat_le, max, Bool, true, List, [], ◌∷◌, Option, None, Some, Contains, All, count_by, map, length, slice_index_or}
use Rattle.std.specs.List.{filter, filter_map, range_with_len}
use Rattle.geometry.specs.Lists.{joined}
use Rattle.geometry.specs.Points.{Point}
use Rattle.elimination_meaning.specs.Elimination.{reduce}
use Rattle.effective_area.specs.Weights.{weights_of}
use Rattle.effective_area.specs.declared.weight.Weight.{Weight}
use Rattle.effective_area.specs.declared.weight.Weight.TheVariants.{End, Area}

-- ---- weights of positions between the ends

-- the area, unless it is the weight of an end
abbrev pub area_of : Weight → Option ℕ
area_of End = None
area_of (Area area) = Some area

-- the areas of the weights of lines, in order
abbrev pub interior_weights : List (List Weight) → List ℕ
interior_weights lines = joined (map (filter_map area_of) lines)

-- ---- the threshold

-- how many of these weights are at least t, so that their positions stay at it
abbrev pub count_kept : ℕ → List ℕ → ℕ
count_kept t ws = count_by (λ w. nat_le t w) ws

-- at least p / q of them stay at t
abbrev pub keeps_share : ℕ → ℕ → List ℕ → ℕ → Bool
keeps_share p q ws t = nat_le (p * length ws) (q * count_kept t ws)

-- the greatest of these numbers, and zero where there is none
abbrev pub greatest : List ℕ → ℕ
greatest [] = 0
greatest (n ∷ ns) = max n (greatest ns)

-- the greatest of zero and the weights at which at least p / q of the weights stay
unfoldable pub share : ℕ → ℕ → List ℕ → ℕ
share p q ws = greatest (filter (keeps_share p q ws) (0 ∷ ws))

-- t is zero or a weight, the share stays at it, and at no weight over it
pub record IsGreatestShare (p q : ℕ) (ws : List ℕ) (t : ℕ) : Type 0 where
  pub known : (t ≡ 0) ⊎ Contains ws t
  pub keeps : p * length ws ≤ q * count_kept t ws
  pub fewer_over : All (λ w. t < w → q * count_kept w ws < p * length ws) ws

-- there is such a threshold, where the share isn't over the whole
abbrev pub ShareIsGreatest : Type 0
ShareIsGreatest = (p q : ℕ) (ws : List ℕ) → p ≤ q → IsGreatestShare p q ws (share p q ws)

-- ---- what stays

-- an end stays, and another position where its weight isn't under the threshold
abbrev pub stays_at : ℕ → Weight → Bool
stays_at t End = true
stays_at t (Area area) = nat_le t area

-- the indexes of the positions that stay by their weights
unfoldable pub kept_at : ℕ → List Weight → List ℕ
kept_at t ws = filter (λ i. stays_at t (slice_index_or ws i End)) (range_with_len 0 (length ws))

-- the indexes of the positions that stay by their weights are those that stay where the line is reduced
abbrev pub KeptAtIsReduced : Type 0
KeptAtIsReduced = (t : ℕ) (ps : List Point) → kept_at t (weights_of ps) ≡ reduce t ps
