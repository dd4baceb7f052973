-- Numbers of places.
use Rattle.std.proofs.Common.{◌≡◌, ℕ, zero, suc, ◌-◌, ◌<◌, ◌≤◌, List, [], ◌∷◌, length, length-append, refl, ap, arith, ◌⊎◌, inl, inr}
use Rattle.std.proofs.lemmas.Bool.{cases_lt}
use Rattle.geometry.specs.Lists.{joined}
use Rattle.geometry.specs.Points.{Point}
use Rattle.guarded_reduction.specs.Numbers.{number, HasPlace}

pub number_within : (arcs : List (List Point)) (k i : ℕ) → HasPlace arcs k i → number arcs k i < length (joined arcs)
number_within [] k i h = elim h [ ]
number_within (ps ∷ arcs) zero i h = omega (arith, length-append ps (joined arcs), h)
number_within (ps ∷ arcs) (suc k) i h = let r = number_within arcs k i h in omega (arith, length-append ps (joined arcs), r)

-- places of later arcs have greater numbers
arcs_rise : (arcs : List (List Point)) (k i l j : ℕ) → HasPlace arcs k i → k < l → number arcs k i < number arcs l j
arcs_rise [] k i l j h r = elim h [ ]
arcs_rise (ps ∷ arcs) zero i zero j h r = absurd (omega (arith, r))
arcs_rise (ps ∷ arcs) zero i (suc l) j h r = omega (arith, h)
arcs_rise (ps ∷ arcs) (suc k) i zero j h r = absurd (omega (arith, r))
arcs_rise (ps ∷ arcs) (suc k) i (suc l) j h r = let n = arcs_rise arcs k i l j h (omega (arith, r)) in omega (arith, n)

-- and so have those of greater indexes
indexes_rise : (arcs : List (List Point)) (k i j : ℕ) → i < j → number arcs k i < number arcs k j
indexes_rise [] k i j h = h
indexes_rise (ps ∷ arcs) zero i j h = h
indexes_rise (ps ∷ arcs) (suc k) i j h = let n = indexes_rise arcs k i j h in omega (arith, n)

pub numbers_rise : (arcs : List (List Point)) (k i l j : ℕ) → HasPlace arcs k i → (k < l) ⊎ ((k ≡ l) × (i < j)) → number arcs k i < number arcs l j
numbers_rise arcs k i l j h (inl r) = arcs_rise arcs k i l j h r
numbers_rise arcs k i l j h (inr (e, r)) = let n = indexes_rise arcs k i j r in omega (arith, n, ap (λ m. number arcs m j) e)

-- no two places have one number
pub same_number : (arcs : List (List Point)) (k i l j : ℕ) → HasPlace arcs k i → HasPlace arcs l j → number arcs k i ≡ number arcs l j → (k ≡ l) × (i ≡ j)
same_number [] k i l j h m e = elim h [ ]
same_number (ps ∷ arcs) zero i zero j h m e = (refl, e)
same_number (ps ∷ arcs) zero i (suc l) j h m e = absurd (omega (arith, h, e))
same_number (ps ∷ arcs) (suc k) i zero j h m e = absurd (omega (arith, m, e))
same_number (ps ∷ arcs) (suc k) i (suc l) j h m e = let r = same_number arcs k i l j h m (omega (arith, e)) in (ap suc r.0, r.1)

-- a number is that of a place
pub record IsNumber (arcs : List (List Point)) (z : ℕ) : Type 0 where
  pub arc : ℕ
  pub index : ℕ
  pub there : HasPlace arcs arc index
  pub is : number arcs arc index ≡ z

pub which_place : (arcs : List (List Point)) (z : ℕ) → z < length (joined arcs) → IsNumber arcs z
which_place [] z h = absurd (omega (arith, h))
which_place (ps ∷ arcs) z h = on (cases_lt z (length ps)) (λ k. which_place arcs (z - length ps) k)
  where
    on : (z < length ps) ⊎ (length ps ≤ z) → (z - length ps < length (joined arcs) → IsNumber arcs (z - length ps)) → IsNumber (ps ∷ arcs) z
    on (inl l) f = record { arc = 0; index = z; there = l; is = refl }
    on (inr l) f =
        let r = f (omega (arith, l, h, length-append ps (joined arcs))) in
        record { arc = suc r.arc; index = r.index; there = r.there; is = omega (arith, r.is, l) }

-- where an arc has a place, it has those before it
pub earlier_place : (arcs : List (List Point)) (k i j : ℕ) → j ≤ i → HasPlace arcs k i → HasPlace arcs k j
earlier_place [] k i j l h = elim h [ ]
earlier_place (ps ∷ arcs) zero i j l h = omega (arith, l, h)
earlier_place (ps ∷ arcs) (suc k) i j l h = earlier_place arcs k i j l h
