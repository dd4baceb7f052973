-- How often a name stood among members, and what is known of its value.
use Rattle.std.specs.Prelude.{◌≡◌, ℕ, Bool, true, false, List, [], ◌∷◌, Some}
use Rattle.std.specs.Borrow.{Bor}
use Rattle.json_value.specs.declared.json.Json.{Json}
use Rattle.json_cursor.specs.Arrays.{prefix_value}
use Rattle.json_cursor.specs.declared.occurrence.Occurrence.{Occurrence}
use Rattle.json_cursor.specs.declared.occurrence.Occurrence.TheVariants.{Never, Once, Again}

-- these are the values of a name that was seen so
abbrev pub IsOccurrence : {A : Type 0} → (Json → A → Type 0) → List Json → Occurrence A → Type 0
IsOccurrence Is vs Never = vs ≡ []
IsOccurrence Is vs (Once x) = (v : Json) × (vs ≡ v ∷ []) × Is v x
IsOccurrence Is vs Again = (v : Json) × (w : Json) × (us : List Json) × (vs ≡ v ∷ w ∷ us)

-- a name that stood once more among members, with what is known of its value
abbrev pub see : {A : Type 0} → Occurrence A → A → Occurrence A
see Never x = Once x
see (Once y) x = Again
see Again x = Again

abbrev pub is_again : {A : Type 0} → Occurrence A → Bool
is_again Never = false
is_again (Once x) = false
is_again Again = true

-- the value begins there
abbrev pub BeginsAt : ℕ → Json → Bor (List ℕ) → Type 0
BeginsAt d v prefix = (rest : List ℕ) × (prefix_value d prefix.now ≡ Some (v, rest))
