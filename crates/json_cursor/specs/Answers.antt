-- What a reader answers of the bytes, against what stands at their front and what the definition reads it as.
use Rattle.std.specs.Prelude.{◌≡◌, ℕ, List, Option, Some, None, Result, Ok, Err}
use Rattle.std.specs.Borrow.{Bor}
use Rattle.json_value.specs.Readers.{Counting}
use Rattle.json_reading.specs.declared.fault.Fault.{Fault as TextFault}
use Rattle.json_reading.specs.declared.fault.Fault.TheVariants as text
use Rattle.json_cursor.specs.declared.stop.Stop.{Stop}
use Rattle.json_cursor.specs.declared.stop.Stop.TheVariants.{Fault, NoValue, Memory}

-- the fault of a text, where only values are wanted
abbrev pub stop_of : {E : Type 0} → TextFault → Stop E
stop_of (text.Malformed why left) = NoValue
stop_of text.Memory = Memory

-- something stands at the front, and then the rest, and it is read as this
pub record Reads {C E V B : Type 0} (read : V → Counting C E B) (prefix : Option (V × List ℕ)) (x : B) (rest : List ℕ) (old new : C) : Type 0 where
  pub value : V
  pub prefix_is : prefix ≡ Some (value, rest)
  pub means : read value old ≡ Ok (x, new)

-- Whatever stands at the front has this fault. Or nothing stands there. Or nothing is said.
abbrev pub Stops : {C E V B : Type 0} → (V → Counting C E B) → Option (V × List ℕ) → C → Stop E → Type 0
Stops {V = V} read prefix old (Fault e) = (v : V) (rest : List ℕ) → prefix ≡ Some (v, rest) → read v old ≡ Err e
Stops read prefix old NoValue = prefix ≡ None
Stops read prefix old Memory = Unit {0}

-- one or the other: `view` is how a clause sees what is read
abbrev pub Answers : {C E V B X : Type 0} → (X → B) → (V → Counting C E B) → Option (V × List ℕ) → C → C → Result (X × Bor (List ℕ)) (Stop E) → Type 0
Answers view read prefix old new (Ok x) = Reads read prefix (view x.0) x.1.now old new
Answers view read prefix old new (Err stop) = Stops read prefix old stop

-- this is read, or the fault is the reader's, or nothing is said
abbrev pub Judges : {C E B : Type 0} → Counting C E B → C → C → Result B (Stop E) → Type 0
Judges read old new (Ok x) = read old ≡ Ok (x, new)
Judges read old new (Err (Fault e)) = read old ≡ Err e
Judges read old new (Err NoValue) = ⊥
Judges read old new (Err Memory) = Unit {0}
