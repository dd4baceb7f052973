-- The kinds of values (RFC 8259, section 3).
use Rattle.std.specs.Prelude.{◌≡◌, ℕ, List, Some}
use Rattle.json_value.specs.declared.json.Json.{Json}
use Rattle.json_value.specs.declared.json.Json.TheOpen.{Json-F}
use Rattle.json_value.specs.declared.json.Json.TheViews.{out-Json}
use Rattle.json_cursor.specs.Arrays.{prefix_value}
use Rattle.json_cursor.specs.declared.kinds.Kind.{Kind}
use Rattle.json_cursor.specs.declared.kinds.Kind.TheVariants.{Null, Bool, Number, Text, Array, Object}

abbrev pub kind_in : Json-F Json → Kind
kind_in Json-F.Null = Null
kind_in (Json-F.Bool b) = Bool
kind_in (Json-F.Number t) = Number
kind_in (Json-F.Text t) = Text
kind_in (Json-F.Array vs) = Array
kind_in (Json-F.Object ms) = Object

abbrev pub kind_of : Json → Kind
kind_of v = kind_in (out-Json v)

-- it is the kind of whatever value stands at the front
abbrev pub IsKind : List ℕ → Kind → Type 0
IsKind bytes kind = (d : ℕ) (v : Json) (rest : List ℕ) → prefix_value d bytes ≡ Some (v, rest) → kind ≡ kind_of v
