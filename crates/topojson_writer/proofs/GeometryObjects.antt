-- The text of an object that has a type and further members.
use Rattle.std.proofs.Common.{◌≡◌, ℕ, false, List, [], ◌∷◌, ◌++◌, map, refl, sym, ap, ◌∙◌, append_assoc}
use Rattle.std.specs.Prelude.{codes}
use Rattle.std.proofs.lemmas.List.{append-nil}
use Rattle.owned_values.specs.Commas.{with_commas}
use Rattle.json_value.specs.declared.json.Json.{Json}
use Rattle.json_value.specs.declared.json.Json.TheVariants as j
use Rattle.json_value.specs.Text.{json_text, name_text, escaped_byte}
use Rattle.json_value.proofs.Texts.{text-null, text-object, one_member}
use Rattle.topojson_types.specs.Values.{Members, Geometrical, inner_value}
use Rattle.topojson_writer.specs.Texts.{type_text, members_text}

pub members-none : members_text [] ≡ []
unfolding members_text
members-none = refl

pub type-null : type_text (record { type = j.Null; parts = [] }) ≡ codes "{\"type\":null"
unfolding type_text
type-null = ap (λ (text : List ℕ). codes "{\"type\":" ++ text) text-null

-- what has no members
pub ruleset none = (members-none, append-nil)

-- a member alone
pub member-alone : (name : List ℕ) (v : Json) → members_text ((name, v) ∷ []) ≡ (codes "," ++ name_text name) ++ json_text v
unfolding members_text
member-alone name v = append-nil ((codes "," ++ name_text name) ++ json_text v)

with_commas-append : (xs ys : List (List ℕ × Json)) → with_commas false (map one_member (xs ++ ys)) ≡ with_commas false (map one_member xs) ++ with_commas false (map one_member ys)
with_commas-append [] ys = refl
with_commas-append (x ∷ xs) ys =
    ap (λ (text : List ℕ). codes "," ++ (one_member x ++ text)) (with_commas-append xs ys)
    ∙ ap (λ (text : List ℕ). codes "," ++ text) (sym (append_assoc (one_member x) (with_commas false (map one_member xs)) (with_commas false (map one_member ys))))

-- members and further members
pub members-append : (ms ns : Members) → members_text (ms ++ ns) ≡ members_text ms ++ members_text ns
unfolding members_text
members-append ms ns = with_commas-append ms ns

-- an object of a type with these members after it
pub object-text : (o : Geometrical) → json_text (inner_value o) ≡ type_text o ++ (members_text o.parts ++ codes "}")
unfolding type_text members_text escaped_byte
object-text o =
    text-object ((codes "type", o.type) ∷ o.parts)
    ∙ ap (λ (text : List ℕ). codes "{\"type\":" ++ text) (append_assoc (json_text o.type) (with_commas false (map one_member o.parts)) (codes "}"))
