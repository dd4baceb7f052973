-- Members of objects that are looked up, as they were seen among the others.
use Rattle.std.specs.Prelude.{◌≡◌, ℕ, List, [], ◌∷◌, ◌++◌, Some, Result, Ok, Err}
use Rattle.std.specs.Borrow.{Bor}
use Rattle.json_value.specs.declared.json.Json.{Json}
use Rattle.json_value.specs.Members.{Members}
use Rattle.json_reading.specs.declared.fault.Fault.{Fault}
use Rattle.json_reading.specs.Gives.{Fails}
pub use Rattle.json_cursor.specs.Answers.{Judges}
use Rattle.json_cursor.specs.Arrays.{prefix_value}
use Rattle.json_cursor.specs.Members.{Made}
pub use Rattle.json_cursor.specs.Occurrences.{BeginsAt, IsOccurrence, see}

-- there are values, and where there is one alone it is so
abbrev pub IsOnly : (Json → Type 0) → List Json → Type 0
IsOnly Is [] = ⊥
IsOnly Is (v ∷ []) = Is v
IsOnly Is (v ∷ w ∷ us) = Unit {0}

-- a value stands at the front, and then the rest, and what was made of the members before goes on with it as the one of this name
pub record TakesValue {S : Type 0} (Holds : Made S) (d : ℕ) (name : List ℕ) (before after : S) (bytes rest : List ℕ) : Type 0 where
  pub value : Json
  pub prefix : prefix_value d bytes ≡ Some (value, rest)
  pub holds : (ms : Members) → Holds ms before → Holds (ms ++ (name, value) ∷ []) after

-- a value stands at the front, and what was made of the members before goes on with it as the one of this name; or none stands there, or
-- nothing is said
abbrev pub GoesOnWith : {S : Type 0} → Made S → ℕ → List ℕ → S → S → List ℕ → Result (Bor (List ℕ)) Fault → Type 0
GoesOnWith Holds d name before after bytes (Ok rest) = TakesValue Holds d name before after bytes rest.now
GoesOnWith Holds d name before after bytes (Err fault) = Fails fault (prefix_value d bytes)
