-- The text of an object of fixed members, part by part.
use Rattle.std.proofs.Common.{◌≡◌, ℕ, Bool, true, false, List, [], ◌∷◌, ◌++◌, map, refl, ap, ◌∙◌, append_assoc}
use Rattle.std.specs.Prelude.{codes}
use Rattle.owned_values.specs.Commas.{comma_unless, with_commas}
use Rattle.json_writer.proofs.Lists.{list_left}
use Rattle.json_value.specs.declared.json.Json.{Json}
use Rattle.json_value.specs.declared.json.Json.TheVariants as j
use Rattle.json_value.specs.Text.{json_text, quoted, escaped_byte}
use Rattle.json_value.proofs.Texts.{text-text, text-object, one_member}

-- what is left of an object in front of these members
abbrev pub members_left : Bool → List (List ℕ × Json) → List ℕ
members_left is_first ms = list_left one_member (codes "}") is_first ms

-- after the brace: all members
pub object-text : (ms : List (List ℕ × Json)) → json_text (j.Object ms) ≡ codes "{" ++ members_left true ms
object-text ms = text-object ms

regrouped : (comma name colon text more closing : List ℕ) → (comma ++ (((name ++ colon) ++ text) ++ more)) ++ closing ≡ comma ++ (name ++ (colon ++ (text ++ (more ++ closing))))
regrouped comma name colon text more closing = simp append_assoc

-- in front of a member: its comma, its name between quotation marks as `written`, the colon, its text, and the members after it
pub member-text : (is_first : Bool) (name written : List ℕ) (v : Json) (text : List ℕ) (ms : List (List ℕ × Json)) → quoted name ≡ written → json_text v ≡ text
    → members_left is_first ((name, v) ∷ ms) ≡ comma_unless is_first ++ (written ++ (codes ":" ++ (text ++ members_left false ms)))
member-text is_first name written v text ms e f =
    rw (← e, ← f) (regrouped (comma_unless is_first) (quoted name) (codes ":") (json_text v) (with_commas false (map one_member ms)) (codes "}"))

-- ---- objects that have a type

pub quoted-type : quoted (codes "type") ≡ codes "\"type\""
quoted-type = unfold escaped_byte in refl

-- an object of its type and one more member
pub object-of_two : (type_name type_written name written : List ℕ) (v : Json) → quoted type_name ≡ type_written → quoted name ≡ written
    → json_text (j.Object ((codes "type", j.Text type_name) ∷ ((name, v) ∷ [])))
    ≡ codes "{\"type\":" ++ (type_written ++ (codes "," ++ (written ++ (codes ":" ++ (json_text v ++ codes "}")))))
object-of_two type_name type_written name written v e f = object-text ((codes "type", j.Text type_name) ∷ ((name, v) ∷ []))
    ∙ ap (λ (text : List ℕ). codes "{" ++ text) (member-text true (codes "type") (codes "\"type\"") (j.Text type_name) type_written ((name, v) ∷ []) quoted-type (text-text type_name ∙ e))
    ∙ ap (λ (text : List ℕ). codes "{\"type\":" ++ (type_written ++ text)) (member-text false name written v (json_text v) [] f refl)
