-- Looking up a member of an object by its name: two of that name are a fault, since RFC 8259, section 4, leaves
-- open what they mean.
use Rattle.std.specs.Prelude.{ℕ, List, [], ◌∷◌, Option, Some, None, Result, Ok, Err, bytes_eq, if◌then◌else◌}
use Rattle.json_value.specs.declared.json.Json.{Json}
use Rattle.json_value.specs.Kinds.{text_of}
use Rattle.json_value.specs.declared.fault.LookupFault.{LookupFault}
use Rattle.json_value.specs.declared.fault.LookupFault.TheVariants.{Missing, Duplicate, WrongKind}
use Rattle.json_value.specs.Readers.{or_fail}

-- the members of an object
abbrev pub Members : Type 0
Members = List (List ℕ × Json)

-- the values of all members of this name, in order
unfoldable pub named : {V : Type 0} → List ℕ → List (List ℕ × V) → List V
named name [] = []
named name (m ∷ ms) = if bytes_eq m.0 name then m.1 ∷ named name ms else named name ms

-- at most one
abbrev pub only : {V : Type 0} → List V → Result (Option V) LookupFault
only [] = Ok None
only (v ∷ []) = Ok (Some v)
only (v ∷ w ∷ vs) = Err Duplicate

-- the value of the member of this name, if there is one
abbrev pub find : {V : Type 0} → List ℕ → List (List ℕ × V) → Result (Option V) LookupFault
find name ms = only (named name ms)

-- it must be there
abbrev pub there : {V : Type 0} → Result (Option V) LookupFault → Result V LookupFault
there (Err e) = Err e
there (Ok None) = Err Missing
there (Ok (Some v)) = Ok v

-- the value of the member of this name
abbrev pub need : {V : Type 0} → List ℕ → List (List ℕ × V) → Result V LookupFault
need name ms = there (find name ms)

-- the text that a value must be
abbrev pub text_or_fail : Result Json LookupFault → Result (List ℕ) LookupFault
text_or_fail (Err e) = Err e
text_or_fail (Ok v) = or_fail WrongKind (text_of v)

-- the text that the member of this name holds
abbrev pub need_text : List ℕ → Members → Result (List ℕ) LookupFault
need_text name ms = text_or_fail (need name ms)
