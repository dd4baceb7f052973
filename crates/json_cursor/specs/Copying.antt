-- What stands at the front of bytes, and is copied in the one text that is written for it.
use Rattle.std.specs.Prelude.{◌≡◌, ℕ, nat_le, ◌&&◌, Bool, List, ◌++◌, map, codes, Some, Result, Ok, Err}
use Rattle.std.specs.Borrow.{Bor}
use Rattle.std.specs.Str.{is_utf8}
use Rattle.owned_values.specs.Commas.{comma_separated}
use Rattle.json_value.specs.declared.json.Json.{Json}
use Rattle.json_value.specs.Grammar.{is_plain}
use Rattle.json_value.specs.Text.{json_text, member_text}
use Rattle.json_value.specs.Reading.{Parse}
use Rattle.json_reading.specs.declared.fault.Fault.{Fault}
use Rattle.json_reading.specs.Gives.{Fails}

-- the texts that are taken: those that are UTF-8
abbrev pub any : List ℕ → Bool
any = is_utf8

-- an ASCII byte of a string that stands for itself
abbrev pub is_simple : ℕ → Bool
is_simple b = nat_le b 127 && is_plain b

-- a member, as it is written
abbrev pub whole_member : List ℕ × Json → List ℕ
whole_member m = member_text (m.0, json_text m.1)

-- the elements of an array after its bracket, as they are written
abbrev pub elements_text : List Json → List ℕ
elements_text vs = comma_separated (map json_text vs) ++ codes "]"

-- the members of an object after its brace, as they are written
abbrev pub members_text : List (List ℕ × Json) → List ℕ
members_text ms = comma_separated (map whole_member ms) ++ codes "}"

-- A thing stands at the front of the bytes, and then the rest. What is written for it was put after the old text.
pub record Copies {A : Type 0} (read : Parse A) (written : A → List ℕ) (bytes rest old new : List ℕ) : Type 0 where
  pub thing : A
  pub found : read bytes ≡ Some (thing, rest)
  pub text : new ≡ old ++ written thing

-- what stands at the front is copied, and this follows it; or nothing of that kind stands there, or nothing is said
abbrev pub CopiesOr : {A : Type 0} → Parse A → (A → List ℕ) → List ℕ → List ℕ → List ℕ → Result (Bor (List ℕ)) Fault → Type 0
CopiesOr read written bytes old new (Ok rest) = Copies read written bytes rest.now old new
CopiesOr read written bytes old new (Err fault) = Fails fault (read bytes)
