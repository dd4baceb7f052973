-- What `parse` answers.
use Rattle.std.specs.Prelude.{◌≡◌, ℕ, List, Result, Ok, Err, IsUtf8}
use Rattle.std.specs.Str.Lossy.{utf8_valid_len}
use Rattle.json_value.specs.declared.json.Json.{Json}
use Rattle.json_value.specs.Grammar.{Reads}
use Rattle.json_reading.specs.declared.fault.JsonFault.{JsonFault}
use Rattle.json_reading.specs.declared.fault.JsonFault.TheVariants.{NotUtf8, Malformed, Memory}

-- `NotUtf8` is answered exactly where the bytes are not UTF-8, with the length of their longest prefix that is.
abbrev pub SaysUtf8 : List ℕ → Result Json JsonFault → Type 0
SaysUtf8 b (Ok v) = IsUtf8 b
SaysUtf8 b (Err (NotUtf8 at)) = ¬ (IsUtf8 b) × (at ≡ utf8_valid_len b)
SaysUtf8 b (Err (Malformed at why)) = IsUtf8 b
SaysUtf8 b (Err Memory) = IsUtf8 b

-- The answer is the value, or there was no memory.
abbrev pub IsReadAs : Json → Result Json JsonFault → Type 0
IsReadAs v (Ok w) = w ≡ v
IsReadAs v (Err e) = e ≡ Memory

-- `Malformed` is answered only where the bytes spell no value.
abbrev pub SpellsNothing : ℕ → List ℕ → Result Json JsonFault → Type 0
SpellsNothing d b (Ok v) = Unit {0}
SpellsNothing d b (Err (NotUtf8 at)) = Unit {0}
SpellsNothing d b (Err (Malformed at why)) = (v : Json) → ¬ (Reads d b v)
SpellsNothing d b (Err Memory) = Unit {0}
