-- Objects at the front of bytes, member by member.
use Rattle.std.specs.Prelude.{◌≡◌, ℕ, ◌-◌, ◌<◌, List, [], ◌∷◌, ◌++◌, Option, Some, None, Result, Ok, Err}
use Rattle.std.specs.Borrow.{Bor}
use Rattle.std.specs.Str.{is_utf8}
use Rattle.json_value.specs.declared.json.Json.{Json}
use Rattle.json_value.specs.declared.json.Json.TheVariants as j
use Rattle.json_value.specs.Kinds.{object_of, text_of}
use Rattle.json_value.specs.Reading.{Parse, ◌>>=◌, list_at, member_at, value_at}
use Rattle.json_reading.specs.declared.fault.Fault.{Fault}
use Rattle.json_reading.specs.Gives.{Fails}
use Rattle.json_cursor.specs.Arrays.{prefix_value}
use Rattle.json_cursor.specs.Names.{name_of}
use Rattle.json_cursor.specs.declared.names.Name.{Name}

-- the members of an object
abbrev pub Members : Type 0
Members = List (List ℕ × Json)

-- a name, a colon and a value, in which arrays and objects may nest so deep
abbrev pub prefix_member : ℕ → Parse (List ℕ × Json)
prefix_member d = member_at is_utf8 (value_at is_utf8 d)

-- one member or more after the brace of an object, up to the one that closes it (125), in so many turns
abbrev pub prefix_members : ℕ → ℕ → Parse Members
prefix_members d turns = list_at 125 (prefix_member d) turns

-- a member of this name stands at the front as soon as a value stands there; or none stands there, or nothing is said
abbrev pub Names : List ℕ → Result (Name × Bor (List ℕ)) Fault → Type 0
Names bytes (Ok x) = (d : ℕ) → prefix_member d bytes ≡ (prefix_value d x.1.now >>= λ v. Some ((name_of x.0, v.0), v.1))
Names bytes (Err fault) = (d : ℕ) → Fails fault (prefix_member d bytes)

-- a string stands at the front; or whatever value stands there is none; or none stands there, or nothing is said
abbrev pub ReadsString : List ℕ → Result (Option (Name × Bor (List ℕ))) Fault → Type 0
ReadsString bytes (Ok (Some x)) = (d : ℕ) → prefix_value d bytes ≡ Some (j.Text (name_of x.0), x.1.now)
ReadsString bytes (Ok None) = (d : ℕ) (v : Json) (end : List ℕ) → prefix_value d bytes ≡ Some (v, end) → text_of v ≡ None
ReadsString bytes (Err fault) = (d : ℕ) → Fails fault (prefix_value d bytes)

-- what was made of members
abbrev pub Made : Type 0 → Type 1
Made S = Members → S → Type 0

-- a member stands at the front, and then the rest, and what was made of the members before goes on with it
pub record TakesMember {S : Type 0} (Holds : Made S) (d : ℕ) (before after : S) (bytes rest : List ℕ) : Type 0 where
  pub member : List ℕ × Json
  pub prefix : prefix_member d bytes ≡ Some (member, rest)
  pub holds : (ms : Members) → Holds ms before → Holds (ms ++ member ∷ []) after

-- a member stands at the front, and what was made of the members before goes on with it; or none stands there, or nothing is said
abbrev pub GoesOn : {S : Type 0} → Made S → ℕ → S → S → List ℕ → Result (Bor (List ℕ)) Fault → Type 0
GoesOn Holds d before after bytes (Ok rest) = TakesMember Holds d before after bytes rest.now
GoesOn Holds d before after bytes (Err fault) = Fails fault (prefix_member d bytes)

-- these members were found, and what was made of none goes on with them
pub record TakesMembers {S : Type 0} (Holds : Made S) (found : Option (Members × List ℕ)) (before after : S) (rest : List ℕ) : Type 0 where
  pub members : Members
  pub prefix : found ≡ Some (members, rest)
  pub holds : Holds [] before → Holds members after

-- these members were found, and what was made of none goes on with them; or there are none, or nothing is said
abbrev pub TakesAll : {S : Type 0} → Made S → Option (Members × List ℕ) → S → S → Result (Bor (List ℕ)) Fault → Type 0
TakesAll Holds found before after (Ok rest) = TakesMembers Holds found before after rest.now
TakesAll Holds found before after (Err fault) = Fails fault found

-- an object of members stands at the front, and what was made of none goes on with them
pub record TakesObject {S : Type 0} (Holds : ℕ → Made S) (d : ℕ) (bytes : List ℕ) (before after : S) (rest : List ℕ) : Type 0 where
  pub depth_left : 0 < d
  pub members : Members
  pub prefix : prefix_value d bytes ≡ Some (j.Object members, rest)
  pub holds : Holds (d - 1) [] before → Holds (d - 1) members after

-- an object of members stands at the front, and what was made of none goes on with them; or whatever value stands there is no object; or
-- none stands there, or nothing is said
abbrev pub GoesThrough : {S : Type 0} → (ℕ → Made S) → ℕ → List ℕ → S → S → Result (Option (Bor (List ℕ))) Fault → Type 0
GoesThrough Holds d bytes before after (Ok (Some rest)) = TakesObject Holds d bytes before after rest.now
GoesThrough Holds d bytes before after (Ok None) = (v : Json) (end : List ℕ) → prefix_value d bytes ≡ Some (v, end) → object_of v ≡ None
GoesThrough Holds d bytes before after (Err fault) = Fails fault (prefix_value d bytes)

-- an object of members stands at the front, and what is answered was made of them; or whatever value stands there is no object; or none
-- stands there, or nothing is said
abbrev pub ReadsObject : {S : Type 0} → (ℕ → Made S) → ℕ → List ℕ → S → Result (Option S × Bor (List ℕ)) Fault → Type 0
ReadsObject Holds d bytes before (Ok (Some after, rest)) = TakesObject Holds d bytes before after rest.now
ReadsObject Holds d bytes before (Ok (None, rest)) = (v : Json) (end : List ℕ) → prefix_value d bytes ≡ Some (v, end) → object_of v ≡ None
ReadsObject Holds d bytes before (Err fault) = Fails fault (prefix_value d bytes)
