-- Texts of a few values, computed, as RFC 8259 and the choice of escapes give them.
use Rattle.std.proofs.Common.{◌≡◌, true, false, [], ◌∷◌, refl}
use Rattle.std.specs.Prelude.{codes}
use Rattle.json_value.specs.declared.json.Json.{Json}
use Rattle.json_value.specs.declared.json.Json.TheVariants as j
use Rattle.json_value.specs.Depth.{depth}
use Rattle.json_value.specs.Numbers.{numbers_of}
use Rattle.json_value.specs.Text.{json_text, escaped_byte, escaped, quoted}
use Rattle.json_value.proofs.Depths.{depths}
use Rattle.json_value.proofs.NumbersOf.{numbers}
use Rattle.json_value.proofs.Texts.{texts}

plain_text : quoted (codes "007") ≡ codes "\"007\""
plain_text = unfold escaped_byte in refl

-- a quotation mark, a reverse solidus, U+0008, U+0009, U+000A, U+000C and U+000D
short_escapes : escaped (34 ∷ 92 ∷ 8 ∷ 9 ∷ 10 ∷ 12 ∷ 13 ∷ []) ≡ codes "\\\"\\\\\\b\\t\\n\\f\\r"
short_escapes = unfold escaped_byte in refl

-- U+0000, U+000B and U+001F
long_escapes : escaped (0 ∷ 11 ∷ 31 ∷ []) ≡ codes "\\u0000\\u000b\\u001f"
long_escapes = unfold escaped_byte in refl

-- a blank, a solidus, U+007F and U+00E9
no_escapes : escaped (32 ∷ 47 ∷ 127 ∷ 195 ∷ 169 ∷ []) ≡ 32 ∷ 47 ∷ 127 ∷ 195 ∷ 169 ∷ []
no_escapes = unfold escaped_byte in refl

-- {"a":[1,null,true],"a":"b/"}
abbrev value : Json
value = j.Object ((codes "a", j.Array (j.Number (codes "1") ∷ j.Null ∷ j.Bool true ∷ [])) ∷ (codes "a", j.Text (codes "b/")) ∷ [])

value_text : json_text value ≡ codes "{\"a\":[1,null,true],\"a\":\"b/\"}"
value_text = unfold escaped_byte in simp texts refl

value_depth : depth value ≡ 2
value_depth = simp depths refl

value_numbers : numbers_of value ≡ codes "1" ∷ []
value_numbers = simp numbers refl

empty_texts : (json_text (j.Array []) ≡ codes "[]") × (json_text (j.Object []) ≡ codes "{}")
empty_texts = (simp texts refl, simp texts refl)

nested_text : json_text (j.Array (j.Array [] ∷ j.Bool false ∷ j.Object [] ∷ [])) ≡ codes "[[],false,{}]"
nested_text = simp texts refl
