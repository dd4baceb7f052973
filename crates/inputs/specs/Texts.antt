-- What a source's bytes are, and the JSON text that they spell, or why they spell none.
use Rattle.std.specs.Prelude.{◌≡◌, ◌⊎◌, ℕ, ◌+◌, ◌^◌, ◌<◌, ◌≤◌, List, length, IfSome, Result, Ok, Err, IsUtf8}
use Rattle.std.specs.Io.KnownBytes.{IsAtEnd}
use Rattle.std.specs.Str.Lossy.{utf8_valid_len}
use Rattle.byte_ends.specs.Ends.{Fed, GaveAtMost, IsPast, saturated}
use Rattle.byte_ends.specs.declared.source.ReadFault.{ReadFault}
use Rattle.byte_ends.specs.declared.source.ReadFault.TheVariants as read
use Rattle.json_reading.specs.declared.fault.JsonFault.{JsonFault}
use Rattle.json_reading.specs.declared.fault.JsonFault.TheVariants as text
use Rattle.json_reading.specs.declared.fault.Why.TheVariants.{Syntax}
use Rattle.json_value.specs.declared.json.Json.{Json}
use Rattle.json_value.specs.Grammar.{Reads}

-- ---- sources

-- how many bytes an input may have
abbrev pub max_input : ℕ
max_input = 10 ^ 9

-- these are all bytes that the source had left, where that is known
abbrev pub AreLeft : Fed → List ℕ → Type 0
AreLeft source bytes = IfSome source.left (λ left. bytes ≡ left)

-- the source has no failure more, gave no more bytes than an input may have, in no more reads than bytes, and was found at its end once
-- at most
pub record IsUntroubled (old new : Fed) : Type 0 where
  pub sound : new.failures ≡ old.failures
  pub within : GaveAtMost max_input old new
  pub ended : new.empty_reads ≤ old.empty_reads + 1

-- the source was read to its end without a failure, found there by one read alone, and had no more bytes than an input may have
pub record IsRead (old new : Fed) (bytes : List ℕ) : Type 0 where
  pub all : AreLeft old bytes
  pub end : IsAtEnd new.left
  pub short : length bytes ≤ max_input
  pub once : new.empty_reads ≡ saturated (old.empty_reads + 1)
  pub untroubled : IsUntroubled old new

-- Why the source wasn't read to its end: its device failed when it had given no more bytes than an input may have, or it had more of
-- them left, and wasn't read, where that was known, or gave at most a block past these. Each read before that gave bytes.
abbrev pub FailsToEnd : Fed → Fed → ReadFault → Type 0
FailsToEnd old new read.Read = (new.failures ≡ saturated (old.failures + 1)) × GaveAtMost max_input old new × (new.empty_reads ≡ old.empty_reads)
FailsToEnd old new read.TooLong = (new.failures ≡ old.failures) × IfSome old.left (λ left. max_input < length left) × IsPast max_input old new
    × (new.empty_reads ≡ old.empty_reads)
FailsToEnd old new read.Memory = ⊥

-- ---- texts

-- the bytes are no JSON text (RFC 8259) that nests no deeper than this
abbrev pub IsNoText : ℕ → List ℕ → JsonFault → Type 0
IsNoText deepest bytes (text.NotUtf8 at) = ¬ (IsUtf8 bytes) × (at ≡ utf8_valid_len bytes)
IsNoText deepest bytes (text.Malformed at why) = IsUtf8 bytes × ((v : Json) → ¬ (Reads deepest bytes v))
IsNoText deepest bytes text.Memory = ⊥

-- the bytes are UTF-8 and spell this value, which nests no deeper than this, or this is why they are no JSON text
abbrev pub IsTextOf : ℕ → List ℕ → Result Json JsonFault → Type 0
IsTextOf deepest bytes (Ok v) = IsUtf8 bytes × Reads deepest bytes v
IsTextOf deepest bytes (Err fault) = IsNoText deepest bytes fault

-- the bytes are too many, which is this fault, or else their text decides
abbrev pub BytesHaveOutcome : {A E : Type 0} → ℕ → E → (Result Json JsonFault → Result A E) → List ℕ → Result A E → Type 0
BytesHaveOutcome deepest too_long of_text bytes outcome =
    ((max_input < length bytes) × (outcome ≡ Err too_long))
    ⊎ ((length bytes ≤ max_input) × (t : Result Json JsonFault) × IsTextOf deepest bytes t × (outcome ≡ of_text t))

-- the fault without the place and the reason in a malformed text, which nothing promises
abbrev pub plain_text_fault : JsonFault → JsonFault
plain_text_fault (text.NotUtf8 at) = text.NotUtf8 at
plain_text_fault (text.Malformed at why) = text.Malformed 0 Syntax
plain_text_fault text.Memory = text.Memory
