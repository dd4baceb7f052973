-- The number texts of RFC 8259, section 6: a minus sign, a whole part, a fraction and an exponent, of which only the whole part must be there.
use Rattle.std.specs.Prelude.{◌≡◌, ℕ, Bool, true, false, ◌||◌, ◌&&◌, ◌==◌, nat_le, List, [], ◌∷◌, ◌++◌}

-- "0" to "9"
abbrev pub is_digit : ℕ → Bool
is_digit b = nat_le 48 b && nat_le b 57

abbrev pub AllDigits : List ℕ → Type 0
AllDigits [] = Unit {0}
AllDigits (b ∷ bs) = (is_digit b ≡ true) × AllDigits bs

pub data IsMinus : List ℕ → Type 0 where
  no_minus : IsMinus []
  one_minus : IsMinus (45 ∷ [])

-- no zero stands before another digit
pub data IsWhole : List ℕ → Type 0 where
  whole_zero : IsWhole (48 ∷ [])
  whole_digits : (b : ℕ) (bs : List ℕ) → is_digit b ≡ true → (b == 48) ≡ false → AllDigits bs → IsWhole (b ∷ bs)

pub data IsFraction : List ℕ → Type 0 where
  no_fraction : IsFraction []
  fraction : (b : ℕ) (bs : List ℕ) → is_digit b ≡ true → AllDigits bs → IsFraction (46 ∷ b ∷ bs)

pub data IsSign : List ℕ → Type 0 where
  no_sign : IsSign []
  plus_sign : IsSign (43 ∷ [])
  minus_sign : IsSign (45 ∷ [])

-- "e" or "E"
abbrev pub is_e : ℕ → Bool
is_e b = b == 101 || b == 69

pub data IsExponent : List ℕ → Type 0 where
  no_exponent : IsExponent []
  exponent : (e : ℕ) (s : List ℕ) (b : ℕ) (bs : List ℕ) → is_e e ≡ true → IsSign s → is_digit b ≡ true → AllDigits bs → IsExponent (e ∷ s ++ b ∷ bs)

pub data IsNumber : List ℕ → Type 0 where
  number_of : (m w f e : List ℕ) → IsMinus m → IsWhole w → IsFraction f → IsExponent e → IsNumber (m ++ (w ++ (f ++ e)))
