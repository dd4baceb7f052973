-- The bytes of a source have an outcome.
use Rattle.std.proofs.Common.{◌≡◌, ◌⊎◌, ℕ, ◌<◌, ◌≤◌, Bool, true, false, List, length, refl, inl, inr, Option, Some, None, Result, Ok, Err}
use Rattle.std.specs.Prelude.{IsUtf8}
use Rattle.std.specs.Str.{is_utf8}
use Rattle.std.specs.Str.Lossy.{utf8_valid_len}
use Rattle.std.proofs.lemmas.Bool.{cases_lt}
use Rattle.std.proofs.lemmas.Str.{IsUtf8-from_is_utf8, is_utf8-from_IsUtf8}
use Rattle.json_value.specs.Reading.{text_at}
use Rattle.json_reading.specs.declared.fault.JsonFault.{JsonFault}
use Rattle.json_reading.specs.declared.fault.JsonFault.TheVariants as text
use Rattle.json_reading.specs.declared.fault.Why.TheVariants.{Syntax}
use Rattle.json_reading.proofs.TextsFound.{not_read}
use Rattle.json_reading.proofs.TextsRead.{text_takes}
use Rattle.json_value.specs.declared.json.Json.{Json}
use Rattle.inputs.specs.Texts.{max_input, IsTextOf, BytesHaveOutcome}

-- what bytes are as a text
abbrev Text : ℕ → List ℕ → Type 0
Text deepest b = (t : Result Json JsonFault) × IsTextOf deepest b t

utf8_text : (deepest : ℕ) (b : List ℕ) → IsUtf8 b → (o : Option Json) → text_at is_utf8 deepest b ≡ o → Text deepest b
utf8_text deepest b utf8 (Some v) e = (Ok v, (utf8, text_takes is_utf8 deepest b v e))
utf8_text deepest b utf8 None e = (Err (text.Malformed 0 Syntax), (utf8, λ v r. not_read deepest b v utf8 e r))

not_true : (u : Bool) → u ≡ false → u ≡ true → ⊥
not_true u e f = cc

text_by : (deepest : ℕ) (b : List ℕ) (u : Bool) → is_utf8 b ≡ u → Text deepest b
text_by deepest b true e = utf8_text deepest b (IsUtf8-from_is_utf8 b e) (text_at is_utf8 deepest b) refl
text_by deepest b false e = (Err (text.NotUtf8 (utf8_valid_len b)), (λ h. not_true (is_utf8 b) e (is_utf8-from_IsUtf8 b h), refl))

-- bytes are a text, or there is a reason why they are none
pub text_there : (deepest : ℕ) (b : List ℕ) → (t : Result Json JsonFault) × IsTextOf deepest b t
text_there deepest b = text_by deepest b (is_utf8 b) refl

-- bytes have an outcome
pub outcome_there : {A E : Type 0} (deepest : ℕ) (too_long : E) (of_text : Result Json JsonFault → Result A E) (b : List ℕ) → (outcome : Result A E) × BytesHaveOutcome deepest too_long of_text b outcome
outcome_there {A} {E} deepest too_long of_text b = by_length (cases_lt max_input (length b))
  where
    by_length : (max_input < length b) ⊎ (length b ≤ max_input) → (outcome : Result A E) × BytesHaveOutcome deepest too_long of_text b outcome
    by_length (inl long) = (Err too_long, inl (long, refl))
    by_length (inr short) = let t = text_there deepest b in (of_text t.0, inr (short, t.0, t.1, refl))
