-- What is written for a value is read as it, and what is read at the front of bytes may be written so.
use Rattle.std.proofs.Common.{◌≡◌, ℕ, ◌≤◌, true, List, [], Some, subst}
use Rattle.std.specs.Prelude.{IsUtf8}
use Rattle.std.specs.Str.{is_utf8}
use Rattle.std.proofs.lemmas.List.{append-nil}
use Rattle.std.proofs.lemmas.Str.{is_utf8-from_IsUtf8, IsUtf8-from_is_utf8}
use Rattle.owned_values.proofs.Elements.{all_weaker}
use Rattle.json_value.specs.declared.json.Json.{Json}
use Rattle.json_value.specs.Depth.{depth}
use Rattle.json_value.specs.Text.{json_text}
use Rattle.json_value.specs.WellFormed.{texts_of, IsWellFormed}
use Rattle.json_value.proofs.Nesting.{no_deeper, deeper}
use Rattle.json_value.proofs.SpelledNumbers.{spelled_numbers}
use Rattle.json_value.proofs.Utf8.{ascii_split, text_utf8}
use Rattle.json_value.proofs.Written.{text_spells}
use Rattle.json_value.proofs.WrittenUtf8.{written_utf8}
use Rattle.json_value.specs.Reading.{value_at}
use Rattle.json_reading.proofs.ValuesFound.{found}
use Rattle.json_reading.proofs.ValuesRead.{fit_takes, value_takes}

-- ---- what is written is read

pub text_is_read : (v : Json) (d : ℕ) → IsWellFormed v → depth v ≤ d → value_at is_utf8 d (json_text v) ≡ Some (v, [])
text_is_read v d formed le =
    subst (λ t. value_at is_utf8 d t ≡ Some (v, [])) (append-nil (json_text v))
    (found is_utf8 (λ b. IsUtf8 b) (λ s t h f. is_utf8-from_IsUtf8 t (text_utf8 s t h f)) ascii_split (deeper (text_spells v formed.numbers) d le) (written_utf8 v formed) [] tt)

-- ---- what is read may be written

pub prefix_formed : (d : ℕ) (bytes rest : List ℕ) (v : Json) → value_at is_utf8 d bytes ≡ Some (v, rest) → IsWellFormed v
prefix_formed d bytes rest v h =
    let here = fit_takes is_utf8 d bytes (v, rest) h in
    record { numbers = spelled_numbers here.1.0; texts = all_weaker (λ t. is_utf8 t ≡ true) (λ t. IsUtf8 t) IsUtf8-from_is_utf8 (texts_of v) here.1.1 }

pub prefix_no_deeper : (d : ℕ) (bytes rest : List ℕ) (v : Json) → value_at is_utf8 d bytes ≡ Some (v, rest) → depth v ≤ d
prefix_no_deeper d bytes rest v h = let here = value_takes is_utf8 d bytes (v, rest) h in no_deeper here.1
