-- Values and members, as they are copied.
use Rattle.std.proofs.Common.{◌≡◌, ◌≢◌, ℕ, ◌-◌, true, false, List, [], ◌∷◌, ◌++◌, length, take, Some, refl, sym, ap, ◌∙◌, append_assoc}
use Rattle.std.specs.Prelude.{codes}
use Rattle.json_value.specs.declared.json.Json.TheVariants as j
use Rattle.json_value.specs.Text.{json_text, quoted, name_text}
use Rattle.json_value.proofs.Texts.{text-null, text-bool, text-number, text-text, text-array, text-object}
use Rattle.json_value.specs.Reading.{skip, after_word, word_at, after_number, number_at, name_at, member_at, value_at, array_at, object_at}
use Rattle.json_reading.proofs.Opened.{at_n, at_t, at_f, text_found, number_found, array_found, object_found, member_found}
use Rattle.json_cursor.specs.Copying.{any, whole_member, elements_text, members_text, Copies}

pub number_copied : (bytes rest number old new : List ℕ) → after_number bytes ≡ Some rest → number ≡ take (length bytes - length rest) bytes → new ≡ old ++ number → Copies number_at (λ t. t) bytes rest old new
unfolding number_at
number_copied bytes rest number old new h is t = record { thing = number; found = rw (h, is) refl; text = t }

module _ (d : ℕ) (bytes rest old new : List ℕ) where
  -- ---- words

  pub null_copied : bytes ≡ codes "null" ++ rest → new ≡ old ++ codes "null" → Copies (value_at any d) json_text bytes rest old new
  unfolding word_at after_word
  null_copied h t = record {
    thing = j.Null;
    found = ap (value_at any d) h ∙ at_n any d 110 (codes "null" ++ rest) (codes "ull" ++ rest) refl refl;
    text = t ∙ ap (λ z. old ++ z) (sym text-null);
  }

  pub true_copied : bytes ≡ codes "true" ++ rest → new ≡ old ++ codes "true" → Copies (value_at any d) json_text bytes rest old new
  unfolding word_at after_word
  true_copied h t = record {
    thing = j.Bool true;
    found = ap (value_at any d) h ∙ at_t any d 116 (codes "true" ++ rest) (codes "rue" ++ rest) refl refl;
    text = t ∙ ap (λ z. old ++ z) (sym (text-bool true));
  }

  pub false_copied : bytes ≡ codes "false" ++ rest → new ≡ old ++ codes "false" → Copies (value_at any d) json_text bytes rest old new
  unfolding word_at after_word
  false_copied h t = record {
    thing = j.Bool false;
    found = ap (value_at any d) h ∙ at_f any d 102 (codes "false" ++ rest) (codes "alse" ++ rest) refl refl;
    text = t ∙ ap (λ z. old ++ z) (sym (text-bool false));
  }

  module _ (b : ℕ) (inside : List ℕ) (first : bytes ≡ b ∷ inside) where
    -- ---- strings and numbers

    pub string_copied : b ≡ 34 → Copies (name_at any) quoted bytes rest old new → Copies (value_at any d) json_text bytes rest old new
    unfolding name_at after_word
    string_copied is c = record {
      thing = j.Text c.thing;
      found = text_found any d b bytes inside first is c.thing rest (sym (ap (name_at any) (first ∙ ap (λ z. z ∷ inside) is)) ∙ c.found);
      text = c.text ∙ ap (λ z. old ++ z) (sym (text-text c.thing));
    }

    pub number_value_copied : b ≢ 110 → b ≢ 116 → b ≢ 102 → b ≢ 34 → b ≢ 91 → b ≢ 123 → Copies number_at (λ t. t) bytes rest old new → Copies (value_at any d) json_text bytes rest old new
    number_value_copied n t f q a o c = record {
      thing = j.Number c.thing;
      found = number_found any d b bytes inside first n t f q a o c.thing rest c.found;
      text = c.text ∙ ap (λ z. old ++ z) (sym (text-number c.thing));
    }

    -- ---- arrays and objects

    pub array_copied : (mid : List ℕ) → b ≡ 91 → d ≢ 0 → mid ≡ old ++ codes "[" → Copies (array_at any (d - 1)) elements_text inside rest mid new → Copies (value_at any d) json_text bytes rest old new
    array_copied mid is depth_left pushed c = record {
      thing = j.Array c.thing;
      found = array_found any d b bytes inside first is depth_left c.thing rest c.found;
      text = c.text ∙ ap (λ z. z ++ elements_text c.thing) pushed ∙ append_assoc old (codes "[") (elements_text c.thing) ∙ ap (λ z. old ++ z) (sym (text-array c.thing));
    }

    pub object_copied : (mid : List ℕ) → b ≡ 123 → d ≢ 0 → mid ≡ old ++ codes "{" → Copies (object_at any (d - 1)) members_text inside rest mid new → Copies (value_at any d) json_text bytes rest old new
    object_copied mid is depth_left pushed c = record {
      thing = j.Object c.thing;
      found = object_found any d b bytes inside first is depth_left c.thing rest c.found;
      text = c.text ∙ ap (λ z. z ++ members_text c.thing) pushed ∙ append_assoc old (codes "{") (members_text c.thing) ∙ ap (λ z. old ++ z) (sym (text-object c.thing));
    }

member_text_is : (old name value : List ℕ) → ((old ++ quoted name) ++ codes ":") ++ value ≡ old ++ (name_text name ++ value)
member_text_is old name value = ap (λ z. z ++ value) (append_assoc old (quoted name) (codes ":")) ∙ append_assoc old (name_text name) value

pub member_copied : (d : ℕ) (bytes name_end following rest old mid colon new : List ℕ) → Copies (name_at any) quoted bytes name_end old mid → Some following ≡ after_word (58 ∷ []) (skip name_end) → colon ≡ mid ++ codes ":"
    → Copies (value_at any d) json_text (skip following) rest colon new → Copies (member_at any (value_at any d)) whole_member bytes rest old new
member_copied d bytes name_end following rest old mid colon new n h pushed v = record {
  thing = (n.thing, v.thing);
  found = member_found any (value_at any d) bytes n.thing name_end n.found following h v.thing rest v.found;
  text = v.text ∙ ap (λ z. z ++ json_text v.thing) (pushed ∙ ap (λ z. z ++ codes ":") n.text) ∙ member_text_is old n.thing (json_text v.thing);
}
