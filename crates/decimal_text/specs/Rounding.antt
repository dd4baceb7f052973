-- The nearest whole number to a fraction, halves away from zero. A fraction is a sign and two natural numbers.
use Rattle.std.specs.Prelude.{◌≡◌, ℕ, ◌+◌, ◌*◌, ◌/◌, ◌%◌, ◌<◌, ◌≤◌, ◌↔◌, ◌==◌, nat_le, IsTrue, Result, Ok, Err, MatchResult, Bool, if◌then◌else◌, ℤ, pos}
use Rattle.std.proofs.Math.IntN.{neg_ℤ}
use Rattle.decimal_text.specs.declared.num_text.Scaled.{Scaled}
use Rattle.decimal_text.specs.declared.num_text.Range.{Range}
use Rattle.decimal_text.specs.declared.rounding.Magnitude.{Magnitude}

-- u is the nearest whole number to num/den, halves up: 2u - 1 <= 2(num/den) < 2u + 1
pub record IsRounded (num den u : ℕ) : Type 0 where
  pub low : 2 * (u * den) ≤ 2 * num + den
  pub high : 2 * num < 2 * (u * den) + den

-- the nearest whole number to num/den, halves up
abbrev pub nearest : ℕ → ℕ → ℕ
nearest num den = (2 * num + den) / (2 * den)

-- the whole number of this sign and magnitude
abbrev pub signed : Bool → ℕ → ℤ
signed negative magnitude = if negative then neg_ℤ (pos magnitude) else pos magnitude

-- the fraction of this sign, rounded, and whether nothing was rounded; `Range` where the rounded magnitude passes the limit
abbrev pub rounded_of : Bool → ℕ → ℕ → ℕ → Result Scaled Range
rounded_of negative num den limit =
    if nat_le (nearest num den) limit
    then Ok (record { value = signed negative (nearest num den); exact = num % den == 0 })
    else Err (record {})

-- a magnitude is the fraction rounded, is exact where that is the fraction itself, and is within the limit
pub record IsRoundedTo (num den limit : ℕ) (m : Magnitude) : Type 0 where
  pub rounded : IsRounded num den m.value
  pub exact : IsTrue m.exact ↔ (m.value * den ≡ num)
  pub within : m.value ≤ limit

-- the rounded fraction, or `Range` where it passes the limit
abbrev pub Rounds : ℕ → ℕ → ℕ → Result Magnitude Range → Type 0
Rounds num den limit r =
    MatchResult r (IsRoundedTo num den limit) (λ _. (u : ℕ) → IsRounded num den u → limit < u)

-- a number is the fraction of this sign rounded, is exact where that is the fraction itself, and is within the limit
pub record IsScaled (negative : Bool) (num den limit : ℕ) (s : Scaled) : Type 0 where
  pub magnitude : ℕ
  pub value : s.value ≡ signed negative magnitude
  pub rounded : IsRounded num den magnitude
  pub exact : IsTrue s.exact ↔ (magnitude * den ≡ num)
  pub within : magnitude ≤ limit

-- the fraction of this sign rounded, or `Range` where the rounded magnitude passes the limit
abbrev pub ScalesTo : Bool → ℕ → ℕ → ℕ → Result Scaled Range → Type 0
ScalesTo negative num den limit r =
    MatchResult r (IsScaled negative num den limit) (λ _. (u : ℕ) × IsRounded num den u × (limit < u))
