-- The laws that tie the definitions to one another and to the grammar.
use Rattle.std.specs.Prelude.{◌≡◌, ◌≢◌, ℕ, ◌<◌, ◌≤◌, ◌↔◌, List, [], ◌++◌, codes, IsSome, Some, Ok, true, ℤ, unsigned_abs}
use Rattle.decimal_text.specs.Grammar.{IsNumber}
use Rattle.decimal_text.specs.Parts.{Parts, parts_of, SpellsNumber}
use Rattle.decimal_text.specs.Rounding.{IsRounded, ScalesTo}
use Rattle.decimal_text.specs.Scaling.{scaled_of, units_text, numerator, denominator}

-- each fraction has one nearest whole number, and only one
abbrev pub RoundedIsUnique : Type 0
RoundedIsUnique = (num den : ℕ) → 0 < den → (u : ℕ) × IsRounded num den u × ((v : ℕ) → IsRounded num den v → v ≡ u)

-- the parts that are read of a text are those that it spells
abbrev pub PartsAreSpelled : Type 0
PartsAreSpelled = (t : List ℕ) (n : Parts) → (parts_of t ≡ Some n) ↔ SpellsNumber t n

-- a text has parts where it is a number by the grammar, and nowhere else
abbrev pub NumbersHaveParts : Type 0
NumbersHaveParts = (t : List ℕ) → IsSome (parts_of t) ↔ IsNumber t

-- a text that spells a number scales to the nearest whole number of that number's fraction
abbrev pub ScaledIsNearest : Type 0
ScaledIsNearest =
    (places limit : ℕ) (t : List ℕ) (n : Parts) → SpellsNumber t n
    → ScalesTo n.negative (numerator n places) (denominator n) limit (scaled_of places limit t)

-- the digits do not end in a zero
abbrev pub EndsInNoZero : List ℕ → Type 0
EndsInNoZero ds = (prefix : List ℕ) → ds ≢ prefix ++ codes "0"

-- a text of units is a number, and at the same places it is that number of units exactly, under each limit that the number meets;
-- it has no exponent, and no zero at the end of its fraction
pub record ReadsAgain (units : ℤ) (places : ℕ) : Type 0 where
  pub number : IsNumber (units_text units places)
  pub exactly : (limit : ℕ) → unsigned_abs units ≤ limit
      → scaled_of places limit (units_text units places) ≡ Ok (record { value = units; exact = true })
  pub least : (n : Parts) → SpellsNumber (units_text units places) n → (n.exponent ≡ []) × EndsInNoZero n.fraction
