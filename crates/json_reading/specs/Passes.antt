-- What is answered where a thing is passed over, against what the function on lists reads.
use Rattle.std.specs.Prelude.{◌≡◌, ℕ, List, Option, Some, Result, Ok, Err}
use Rattle.std.specs.Borrow.{Bor}
use Rattle.json_reading.specs.declared.fault.Fault.{Fault}
use Rattle.json_reading.specs.Gives.{Fails}

-- Something is read, and this follows it. Or nothing is read, unless memory ran out.
abbrev pub Passes : {A : Type 0} → Result (Bor (List ℕ)) Fault → Option (A × List ℕ) → Type 0
Passes {A} (Ok rest) read = (thing : A) × (read ≡ Some (thing, rest.now))
Passes (Err fault) read = Fails fault read

-- A whole text is read, which nothing follows. Or nothing is read, unless memory ran out.
abbrev pub Checks : {A : Type 0} → Result (Unit {0}) Fault → Option A → Type 0
Checks {A} (Ok done) read = (thing : A) × (read ≡ Some thing)
Checks (Err fault) read = Fails fault read
