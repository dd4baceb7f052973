-- What a value is: the elements of an array, the members of an object, the bytes of a text, the text of a number.
use Rattle.std.specs.Prelude.{ℕ, List, Option, Some, None}
use Rattle.json_value.specs.declared.json.Json.{Json}
use Rattle.json_value.specs.declared.json.Json.TheViews.{out-Json}
use Rattle.json_value.specs.declared.json.Json.TheOpen.{Json-F}

-- the elements of an array, on one level of a value
abbrev pub array_in : Json-F Json → Option (List Json)
array_in (Json-F.Array vs) = Some vs
array_in _ = None

-- the members of an object, on one level of a value
abbrev pub object_in : Json-F Json → Option (List (List ℕ × Json))
object_in (Json-F.Object ms) = Some ms
object_in _ = None

-- the bytes of a text, on one level of a value
abbrev pub text_in : Json-F Json → Option (List ℕ)
text_in (Json-F.Text t) = Some t
text_in _ = None

-- the text of a number, on one level of a value
abbrev pub number_in : Json-F Json → Option (List ℕ)
number_in (Json-F.Number t) = Some t
number_in _ = None

-- the elements, if it is an array
unfoldable pub array_of : Json → Option (List Json)
array_of v = array_in (out-Json v)

-- the members, if it is an object
unfoldable pub object_of : Json → Option (List (List ℕ × Json))
object_of v = object_in (out-Json v)

-- the bytes, if it is a text
unfoldable pub text_of : Json → Option (List ℕ)
text_of v = text_in (out-Json v)

-- the text of the number, if it is one
unfoldable pub number_of : Json → Option (List ℕ)
number_of v = number_in (out-Json v)
