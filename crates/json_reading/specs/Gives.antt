-- What a function of the reader answers, against what the function on lists answers.
use Rattle.std.specs.Prelude.{◌≡◌, ℕ, Option, Some, None, Result, Ok, Err}
use Rattle.json_reading.specs.declared.fault.Fault.{Fault}
use Rattle.json_reading.specs.declared.fault.Fault.TheVariants.{Malformed, Memory}

-- the fault is one of the text, and not of memory
abbrev pub IsMalformed : Fault → Type 0
IsMalformed (Malformed why left) = Unit {0}
IsMalformed Memory = ⊥

-- the fault is one of the text, where so many bytes are left
abbrev pub StopsBefore : ℕ → Fault → Type 0
StopsBefore n (Malformed why left) = left ≡ n
StopsBefore n Memory = ⊥

-- A text is malformed only where reading gives nothing.
abbrev pub Fails : {Y : Type 0} → Fault → Option Y → Type 0
Fails (Malformed why left) read = read ≡ None
Fails Memory read = Unit {0}

-- Seen by view, it is what reading gives, unless memory ran out.
abbrev pub Gives : {X Y : Type 0} → (X → Y) → Result X Fault → Option Y → Type 0
Gives view (Ok x) read = read ≡ Some (view x)
Gives view (Err e) read = Fails e read
