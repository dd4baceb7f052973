-- Worked rows of thresholds by the share that stays.
use Rattle.std.proofs.Common.{◌≡◌, ℕ, List, [], ◌∷◌, refl}
use Rattle.effective_area.specs.declared.weight.Weight.TheVariants.{End, Area}
use Rattle.effective_area.specs.Shares.{interior_weights, kept_at, share}

-- two lines, the second a segment
rows : interior_weights ((End ∷ (Area 1 ∷ (Area 9 ∷ (End ∷ [])))) ∷ ((End ∷ (End ∷ [])) ∷ [])) ≡ 1 ∷ (9 ∷ [])
rows = refl

abbrev two : List ℕ
two = 1 ∷ (9 ∷ [])

half_of_two : share 1 2 two ≡ 9
unfolding share
half_of_two = refl

none_of_two : share 0 1 two ≡ 9
unfolding share
none_of_two = refl

two_thirds_of_two : share 2 3 two ≡ 1
unfolding share
two_thirds_of_two = refl

all_of_two : share 1 1 two ≡ 1
unfolding share
all_of_two = refl

-- one weight is zero
half_with_zero : share 1 2 (2 ∷ (0 ∷ [])) ≡ 2
unfolding share
half_with_zero = refl

all_with_zero : share 1 1 (2 ∷ (0 ∷ [])) ≡ 0
unfolding share
all_with_zero = refl

-- no weight
half_of_none : share 1 2 [] ≡ 0
unfolding share
half_of_none = refl

-- equal weights stay together
abbrev tied : List ℕ
tied = 5 ∷ (5 ∷ (3 ∷ []))

third_of_tied : share 1 3 tied ≡ 5
unfolding share
third_of_tied = refl

two_thirds_of_tied : share 2 3 tied ≡ 5
unfolding share
two_thirds_of_tied = refl

all_of_tied : share 1 1 tied ≡ 3
unfolding share
all_of_tied = refl

-- the indexes that stay at a weight
stay_at_two : kept_at 2 (End ∷ (Area 2 ∷ (Area 1 ∷ (End ∷ [])))) ≡ 0 ∷ (1 ∷ (3 ∷ []))
unfolding kept_at
stay_at_two = refl
