-- Where a member stands.
use Rattle.std.specs.Prelude.{◌≡◌, ℕ, ◌<◌, true, List, length, get_or, Option, Some, None, Result, Ok, Err, bytes_eq}
use Rattle.json_value.specs.declared.fault.LookupFault.{LookupFault}
use Rattle.json_value.specs.Members.{find}

-- the member that stands there has this name
abbrev pub StandsAt : {V : Type 0} → List ℕ → List (List ℕ × V) → ℕ → List ℕ × V → Type 0
StandsAt name ms i m = (i < length ms) × ((m ≡ get_or ms i m) × (bytes_eq m.0 name ≡ true))

-- the place of the member that is found by this name
abbrev pub IsPlace : {V : Type 0} → List ℕ → List (List ℕ × V) → Result (Option ℕ) LookupFault → Type 0
IsPlace name ms (Err e) = find name ms ≡ Err e
IsPlace name ms (Ok None) = find name ms ≡ Ok None
IsPlace {V} name ms (Ok (Some i)) = (m : List ℕ × V) × (StandsAt name ms i m × (find name ms ≡ Ok (Some m.1)))
