-- The nearest whole number as a function: it is the rounded number of the inequalities, and the only one.
use Rattle.std.proofs.Common.{◌≡◌, ℕ, ◌*◌, ◌%◌, ◌<◌, ◌≤◌, ◌==◌, Bool, true, Ok, Err, refl, arith, ⊎_elim, Decides}
use Rattle.std.proofs.lemmas.Bool.{cases_lt, le-leb, lt-leb}
use Rattle.std.proofs.lemmas.Bool.Decides.{same_from_decides}
use Rattle.std.proofs.lemmas.Nat.{mod-mul-add}
use Rattle.decimal_text.specs.declared.rounding.Magnitude.{Magnitude}
use Rattle.decimal_text.specs.Rounding.{IsRounded, IsRoundedTo, ScalesTo, nearest, signed, rounded_of}
use Rattle.decimal_text.specs.Laws.{RoundedIsUnique}
use Rattle.decimal_text.proofs.RoundedFractions.{IsRounded-some, IsRounded-unique, IsRounded-whole}

pub rounded_is_unique : RoundedIsUnique
rounded_is_unique num den h =
    let is : IsRounded num den (nearest num den) = IsRounded-some num den h in
    (nearest num den, is, λ v r. IsRounded-unique num den v (nearest num den) r is)

pub nearest-only : (num den u : ℕ) → 0 < den → IsRounded num den u → nearest num den ≡ u
nearest-only num den u h r = IsRounded-unique num den (nearest num den) u (IsRounded-some num den h) r

rest-test : (num den u : ℕ) → 0 < den → IsRounded num den u → Decides (num % den == 0) (u * den ≡ num)
rest-test num den u h r = grind (arith, mod-mul-add)

pub rounded_of-within : (negative : Bool) (num den limit : ℕ) → nearest num den ≤ limit
    → rounded_of negative num den limit ≡ Ok (record { value = signed negative (nearest num den); exact = num % den == 0 })
rounded_of-within negative num den limit h = rw (le-leb (nearest num den) limit h) refl

pub rounded_of-past : (negative : Bool) (num den limit : ℕ) → limit < nearest num den → rounded_of negative num den limit ≡ Err (record {})
rounded_of-past negative num den limit h = rw (lt-leb (nearest num den) limit h) refl

-- what a magnitude within the limit gives
pub rounded_of-magnitude : (negative : Bool) (num den limit : ℕ) (m : Magnitude) → 0 < den → IsRoundedTo num den limit m
    → rounded_of negative num den limit ≡ Ok (record { value = signed negative m.value; exact = m.exact })
rounded_of-magnitude negative num den limit m h r = grind (arith, nearest-only, same_from_decides, rest-test, rounded_of-within)

-- what a magnitude past the limit gives
pub rounded_of-range : (negative : Bool) (num den limit : ℕ) → 0 < den → ((u : ℕ) → IsRounded num den u → limit < u)
    → rounded_of negative num den limit ≡ Err (record {})
rounded_of-range negative num den limit h past = grind (arith, rounded_of-past)

-- the function meets the inequalities
pub rounded_of-nearest : (negative : Bool) (num den limit : ℕ) → 0 < den → ScalesTo negative num den limit (rounded_of negative num den limit)
rounded_of-nearest negative num den limit h =
    let is : IsRounded num den (nearest num den) = IsRounded-some num den h in
    ⊎_elim (λ past. rw (rounded_of-past negative num den limit past) (nearest num den, is, past))
    (λ small. rw (rounded_of-within negative num den limit small) record {
      magnitude = nearest num den;
      value = refl;
      rounded = is;
      exact = rest-test num den (nearest num den) h is;
      within = small;
    }) (cases_lt limit (nearest num den))

-- a whole number, within the limit
pub rounded_of-whole : (negative : Bool) (den u limit : ℕ) → 0 < den → u ≤ limit
    → rounded_of negative (u * den) den limit ≡ Ok (record { value = signed negative u; exact = true })
rounded_of-whole negative den u limit h small =
    let r : IsRounded (u * den) den u = IsRounded-whole den u h in
    rounded_of-magnitude negative (u * den) den limit (record { value = u; exact = true }) h
    record { rounded = r; exact = (λ t. refl, λ e. refl); within = small }
