-- The one text that is written for a value (RFC 8259): no white space, members in order with their duplicates, numbers by their own texts.
use Rattle.std.specs.Prelude.{ℕ, ◌+◌, ◌/◌, ◌%◌, ◌==◌, nat_lt, Bool, true, false, if◌then◌else◌, List, [], ◌∷◌, ◌++◌, map, codes}
use Rattle.std.specs.List.{flat_map}
use Rattle.owned_values.specs.Commas.{comma_separated}
use Rattle.json_value.specs.declared.json.Json.{Json, fold-Json}
use Rattle.json_value.specs.declared.json.Json.TheOpen.{Json-F}

-- ---- section 7: strings

-- the lower-case hexadecimal digit of a number below sixteen: "0" to "9", "a" to "f"
abbrev pub hex_digit : ℕ → ℕ
hex_digit n = if nat_lt n 10 then 48 + n else 87 + n

-- What stands for a byte of a text between quotation marks: the quotation mark, 34, the reverse solidus, 92, and what is below a blank, 32, are escaped.
-- Everything else stands for itself, the solidus and U+007F too.
unfoldable pub escaped_byte : ℕ → List ℕ
escaped_byte b =
    if b == 34 then codes "\\\""
    else (if b == 92 then codes "\\\\"
    else (if b == 8 then codes "\\b"
    else (if b == 9 then codes "\\t"
    else (if b == 10 then codes "\\n"
    else (if b == 12 then codes "\\f"
    else (if b == 13 then codes "\\r"
    else (if nat_lt b 32 then codes "\\u00" ++ hex_digit (b / 16) ∷ hex_digit (b % 16) ∷ []
    else b ∷ [])))))))

-- the bytes between the quotation marks
abbrev pub escaped : List ℕ → List ℕ
escaped t = flat_map escaped_byte t

-- a text between quotation marks
abbrev pub quoted : List ℕ → List ℕ
quoted t = codes "\"" ++ escaped t ++ codes "\""

-- ---- sections 3 to 6: values

-- a truth value
abbrev pub bool_text : Bool → List ℕ
bool_text true = codes "true"
bool_text false = codes "false"

-- the name of a member, and the colon
abbrev pub name_text : List ℕ → List ℕ
name_text name = quoted name ++ codes ":"

-- a name, and the text of a value
abbrev pub member_text : List ℕ × List ℕ → List ℕ
member_text m = name_text m.0 ++ m.1

-- one level, with the text of each value inside in its place
abbrev pub text_step : Json-F (List ℕ) → List ℕ
text_step Json-F.Null = codes "null"
text_step (Json-F.Bool b) = bool_text b
text_step (Json-F.Number t) = t
text_step (Json-F.Text t) = quoted t
text_step (Json-F.Array ts) = codes "[" ++ comma_separated ts ++ codes "]"
text_step (Json-F.Object ms) = codes "{" ++ comma_separated (map member_text ms) ++ codes "}"

-- the text of a value
unfoldable pub json_text : Json → List ℕ
json_text = fold-Json (List ℕ) text_step
