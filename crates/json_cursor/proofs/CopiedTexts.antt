-- The text that is copied of an object is read as it again.
use Rattle.std.proofs.Common.{◌≡◌, ℕ, ◌≤◌, List, [], ◌++◌, Some, refl, sym, ap, ◌∙◌, arith}
use Rattle.json_value.specs.declared.json.Json.{Json, roll-Json}
use Rattle.json_value.specs.declared.json.Json.TheViews.{out-Json, roll-out-Json}
use Rattle.json_value.specs.declared.json.Json.TheOpen.{Json-F}
use Rattle.json_cursor.specs.Kinds.{kind_in, kind_of}
use Rattle.json_cursor.specs.declared.kinds.Kind.TheVariants as kind
use Rattle.json_value.specs.declared.json.Json.TheVariants as j
use Rattle.json_value.specs.Kinds.{object_of}
use Rattle.json_value.specs.Limits.{properties_depth}
use Rattle.json_value.specs.Reading.{value_at}
use Rattle.json_value.specs.Text.{json_text}
use Rattle.json_value.proofs.KindsOf.{object_of-object}
use Rattle.json_reading.proofs.PrefixValues.{text_is_read, prefix_formed, prefix_no_deeper}
use Rattle.json_value.specs.PropertyMembers.{Members, members_if, members_read, members_in}
use Rattle.json_cursor.specs.Copying.{any, Copies}

-- An object stands at the front, and the text is the one that is written for it. Its members are those that the text has.
pub record ObjectText (d : ℕ) (bytes rest text : List ℕ) : Type 0 where
  pub prefix : value_at any d bytes ≡ Some (j.Object (members_in text), rest)
  pub written : json_text (j.Object (members_in text)) ≡ text

pub text_of_object : (d : ℕ) (bytes rest start copied text : List ℕ) → d ≤ properties_depth → ((v : Json) (end : List ℕ) → value_at any d bytes ≡ Some (v, end) → (ms : Members) × (v ≡ j.Object ms)) → start ≡ [] → text ≡ copied → Copies (value_at any d) json_text bytes rest start copied → ObjectText d bytes rest text
unfolding members_in
text_of_object d bytes rest start copied text le object none whole c =
    let ms = object c.thing rest c.found in
    let depth_left = prefix_no_deeper d bytes rest c.thing c.found in
    let is : text ≡ json_text c.thing = whole ∙ c.text ∙ ap (λ z. z ++ json_text c.thing) none in
    let again : value_at any properties_depth text ≡ Some (c.thing, []) = ap (value_at any properties_depth) is ∙ text_is_read c.thing properties_depth (prefix_formed d bytes rest c.thing c.found) (omega arith) in
    let same : members_in text ≡ ms.0 = ap members_read again ∙ ap (λ v. members_if (object_of v)) ms.1 ∙ ap members_if (object_of-object ms.0) in
    record {
      prefix = c.found ∙ ap (λ v. Some (v, rest)) (ms.1 ∙ ap j.Object (sym same));
      written = ap (λ xs. json_text (j.Object xs)) same ∙ ap json_text (sym ms.1) ∙ sym is;
    }

-- an object is a value of that kind
kind_object : (v : Json) (x : Json-F Json) → out-Json v ≡ x → kind.Object ≡ kind_in x → (ms : Members) × (v ≡ j.Object ms)
kind_object v (Json-F.Object ms) e h = (ms, sym (roll-out-Json v) ∙ (ap roll-Json e ∙ j.rolls-Object ms))
kind_object v Json-F.Null e h = absurd cc
kind_object v (Json-F.Bool b) e h = absurd cc
kind_object v (Json-F.Number t) e h = absurd cc
kind_object v (Json-F.Text t) e h = absurd cc
kind_object v (Json-F.Array vs) e h = absurd cc

pub is_object : (v : Json) → kind.Object ≡ kind_of v → (ms : Members) × (v ≡ j.Object ms)
is_object v h = kind_object v (out-Json v) refl h
