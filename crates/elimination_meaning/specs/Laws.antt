-- What is true of reduction.
use Rattle.std.specs.Prelude.{◌≡◌, ℕ, ◌-◌, ◌≤◌, List, [], ◌∷◌, ◌++◌, length, map, reverse, None}
use Rattle.std.specs.List.{filter, range_with_len}
use Rattle.geometry.specs.Lists.{AreDistinct, interior}
use Rattle.geometry.specs.Points.{Point}
use Rattle.elimination_meaning.specs.Elimination.{next, remaining, reduce, reduced}
use Rattle.elimination_meaning.specs.Rising.{RisesOver}
use Rattle.elimination_meaning.specs.Sublists.{Sublist}
use Rattle.elimination_meaning.specs.Weights.{weight, is_kept_at}

-- where the positions between the ends are distinct, the reversed line is reduced to the reversed positions
abbrev pub DirectionLaw : Type 0
DirectionLaw = (t : ℕ) (ps : List Point) → AreDistinct (interior ps) → reduced t (reverse ps) ≡ reverse (reduced t ps)

-- the indexes of the same places counted from the other end of so many
abbrev pub mirrored : ℕ → List ℕ → List ℕ
mirrored n is = reverse (map (λ i. n - 1 - i) is)

-- the indexes that stay of a reversed line are those that stay of the line, counted from the other end
abbrev pub IndexDirectionLaw : Type 0
IndexDirectionLaw = (t : ℕ) (ps : List Point) → AreDistinct (interior ps) → reduce t (reverse ps) ≡ mirrored (length ps) (reduce t ps)

-- nothing is under a threshold of zero
abbrev pub ZeroLaw : Type 0
ZeroLaw = (ps : List Point) → reduced 0 ps ≡ ps

-- the ends stay
abbrev pub EndsStay : Type 0
EndsStay = (t : ℕ) (p q : Point) (ps : List Point) → (between : List Point) × (reduced t (p ∷ (ps ++ (q ∷ []))) ≡ p ∷ (between ++ (q ∷ [])))

-- no position is new, and those that stay keep their order
abbrev pub NoneIsNew : Type 0
NoneIsNew = (t : ℕ) (ps : List Point) → Sublist (reduced t ps) ps

-- no corner that is left is under the threshold: there are steps enough
abbrev pub NoneIsLeft : Type 0
NoneIsLeft = (t : ℕ) (ps : List Point) → next t (remaining t ps) ≡ None

-- the indexes that stay rise from the first to the last of the line
abbrev pub IndexesRise : Type 0
IndexesRise = (t : ℕ) (ps : List Point) → 2 ≤ length ps → RisesOver (length ps) (reduce t ps)

-- what stays at a higher threshold stays at a lower one
abbrev pub HigherKeepsFewer : Type 0
HigherKeepsFewer = (t u : ℕ) (ps : List Point) → t ≤ u → Sublist (reduce u ps) (reduce t ps)

-- the indexes that stay are those of the ends, and of the positions whose weight isn't under the threshold
abbrev pub KeptByWeight : Type 0
KeptByWeight = (t : ℕ) (ps : List Point) → reduce t ps ≡ filter (λ i. is_kept_at t (weight ps i)) (range_with_len 0 (length ps))
