-- The value that properties are.
use Rattle.std.specs.Prelude.{◌≡◌, ℕ, List, Option, Some, None, Result, Ok, Err}
use Rattle.std.specs.Borrow.{Bor}
use Rattle.json_value.specs.declared.json.Json.{Json}
use Rattle.json_value.specs.declared.json.Json.TheOpen.{Json-F}
use Rattle.json_value.specs.declared.json.Json.TheViews.{out-Json}
use Rattle.json_value.specs.Reading.{value_at}
use Rattle.json_reading.specs.declared.fault.Fault.{Fault}
use Rattle.json_reading.specs.Gives.{Fails}
use Rattle.json_value.specs.PropertyMembers.{Members}
use Rattle.json_cursor.specs.Copying.{any}

-- the members of an object; null has none, and any other value isn't what properties are
abbrev pub properties_in : Json-F Json → Option (Option Members)
properties_in Json-F.Null = Some None
properties_in (Json-F.Object ms) = Some (Some ms)
properties_in _ = None

abbrev pub properties_of : Json → Option (Option Members)
properties_of v = properties_in (out-Json v)

-- a value stands at the front that gives these properties, and this follows it; or none stands there, or nothing is said
abbrev pub ReadsProperties : ℕ → List ℕ → Result (Option (Option Members) × Bor (List ℕ)) Fault → Type 0
ReadsProperties d bytes (Ok x) = (v : Json) × (value_at any d bytes ≡ Some (v, x.1.now)) × (x.0 ≡ properties_of v)
ReadsProperties d bytes (Err fault) = Fails fault (value_at any d bytes)
