-- The threshold at which a share of the positions between the ends of arcs stays under a guard.
use Rattle.std.specs.Prelude.{◌≡◌, ℕ, ◌*◌, ◌<◌, ◌≤◌, ◌⊎◌, nat_le, max, Bool, List, [], ◌∷◌, length, Option, count_by}
use Rattle.std.specs.List.{filter}
use Rattle.geometry.specs.Lists.{In, some_of}
use Rattle.geometry.specs.Points.{Point}
use Rattle.elimination_meaning.specs.Weights.{is_kept_at}
use Rattle.guarded_meaning.specs.Elimination.{Guard}
use Rattle.guarded_meaning.specs.Weights.{interior_weights}

-- the weights of those that go at some threshold
abbrev pub known : List (Option ℕ) → List ℕ
known ws = some_of (λ w. w) ws

-- how many stay at t: those that never go, and those whose weight isn't under it
abbrev pub count_kept : ℕ → List (Option ℕ) → ℕ
count_kept t ws = count_by (is_kept_at t) ws

-- at least p / q of them stay at t
abbrev pub keeps_share : ℕ → ℕ → List (Option ℕ) → ℕ → Bool
keeps_share p q ws t = nat_le (p * length ws) (q * count_kept t ws)

-- the greatest of these numbers, and zero where there is none
abbrev pub greatest : List ℕ → ℕ
greatest [] = 0
greatest (n ∷ ns) = max n (greatest ns)

-- the greatest of zero and the weights at which at least p / q of them stay
unfoldable pub share : ℕ → ℕ → List (Option ℕ) → ℕ
share p q ws = greatest (filter (keeps_share p q ws) (0 ∷ known ws))

-- the threshold of this share of the positions between the ends of arcs
abbrev pub chosen : ℕ → ℕ → Guard → List (List Point) → ℕ
chosen p q guard arcs = share p q (interior_weights guard arcs)

-- t is zero or a weight, the share stays at it, and at no weight over it
pub record IsGreatestShare (p q : ℕ) (ws : List (Option ℕ)) (t : ℕ) : Type 0 where
  pub among : (t ≡ 0) ⊎ In t (known ws)
  pub keeps : p * length ws ≤ q * count_kept t ws
  pub fewer_over : (w : ℕ) → In w (known ws) → t < w → q * count_kept w ws < p * length ws
