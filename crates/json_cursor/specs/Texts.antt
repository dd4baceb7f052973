-- What the reader of a whole text answers.
use Rattle.std.specs.Prelude.{◌≡◌, ℕ, List, Result, Ok, Err, IsUtf8}
use Rattle.json_value.specs.declared.json.Json.{Json}
use Rattle.json_value.specs.Grammar.{Reads}
use Rattle.json_value.specs.Readers.{Counting}
use Rattle.json_reading.specs.Outcome.{SaysUtf8, SpellsNothing}
use Rattle.geojson_types.specs.declared.counts.Counts.{Counts}
use Rattle.geojson_types.specs.Counting.{no_counts}
use Rattle.json_cursor.specs.declared.texts.Refusal.{Refusal}
use Rattle.json_cursor.specs.declared.texts.Refusal.TheVariants.{Text, Meaning, Memory}

-- The bytes are UTF-8 and spell a value that is read as this, or that has this first fault. Or they spell none, for this reason. Or nothing
-- is said. `view` is how a clause sees what is read.
abbrev pub TextAnswers : {E B X : Type 0} → (X → B) → (Json → Counting Counts E B) → ℕ → List ℕ → Result (X × Counts) (Refusal E) → Type 0
TextAnswers view read d bytes (Ok r) = IsUtf8 bytes × (v : Json) × Reads d bytes v × (read v no_counts ≡ Ok (view r.0, r.1))
TextAnswers view read d bytes (Err (Meaning e)) = IsUtf8 bytes × (v : Json) × Reads d bytes v × (read v no_counts ≡ Err e)
TextAnswers view read d bytes (Err (Text fault)) = SaysUtf8 bytes (Err fault) × SpellsNothing d bytes (Err fault)
TextAnswers view read d bytes (Err Memory) = Unit {0}
