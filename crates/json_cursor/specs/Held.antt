-- What is held of a value until what follows it is known: what it is read as, or its first fault.
use Rattle.std.specs.Prelude.{◌≡◌, ℕ, List, Option, Some, Result, Ok, Err}
use Rattle.std.specs.Borrow.{Bor}
use Rattle.json_value.specs.declared.json.Json.{Json}
use Rattle.json_value.specs.Readers.{Counting}
use Rattle.json_reading.specs.declared.fault.Fault.{Fault}
use Rattle.json_reading.specs.Gives.{Fails}
use Rattle.json_cursor.specs.Arrays.{prefix_value}

-- something stands at the front, of which this is known, and this follows it; or nothing stands there, or nothing is said
abbrev pub Finds : {V A : Type 0} → (V → A → Type 0) → Option (V × List ℕ) → Result (A × Bor (List ℕ)) Fault → Type 0
Finds {V} Is prefix (Ok x) = (v : V) × (prefix ≡ Some (v, x.1.now)) × Is v x.0
Finds Is prefix (Err fault) = Fails fault prefix

-- a value stands at the front, of which this is known, and this follows it; or none stands there, or nothing is said
abbrev pub FindsValue : {A : Type 0} → (Json → A → Type 0) → ℕ → List ℕ → Result (A × Bor (List ℕ)) Fault → Type 0
FindsValue Is d bytes (Ok x) = (v : Json) × (prefix_value d bytes ≡ Some (v, x.1.now)) × Is v x.0
FindsValue Is d bytes (Err fault) = Fails fault (prefix_value d bytes)

-- this is what the value is read as from these counts on, with these after it, or its fault
abbrev pub IsHeld : {C E V B : Type 0} → (V → Counting C E B) → C → C → V → Result B E → Type 0
IsHeld read old new v (Ok x) = read v old ≡ Ok (x, new)
IsHeld read old new v (Err e) = read v old ≡ Err e
