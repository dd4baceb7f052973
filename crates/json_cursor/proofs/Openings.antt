-- What the first byte of a value says of its kind.
use Rattle.std.proofs.Common.{◌≡◌, ◌≢◌, ℕ, ◌-◌, Bool, true, false, if◌then◌else◌, eqb, List, [], ◌∷◌, length, Option, Some, None, refl, ◌∙◌, sym, arith}
use Rattle.std.specs.Prelude.{codes}
use Rattle.std.specs.Str.{is_utf8}
use Rattle.json_value.specs.declared.json.Json.{Json}
use Rattle.json_value.specs.declared.json.Json.TheVariants as j
use Rattle.json_value.specs.Kinds.{array_of, object_of, text_of}
use Rattle.json_value.specs.Reading.{Parse, ◌>>=◌, skip, after_word, word_at, string_at, number_at, items_at, member_at, list_at, value_with, value_at}
use Rattle.json_value.proofs.KindsOf.{array_of-null, array_of-bool, array_of-number, array_of-text, array_of-object, object_of-null, object_of-bool, object_of-number, object_of-text, object_of-array, text_of-null, text_of-bool, text_of-number, text_of-array, text_of-object}
use Rattle.json_reading.proofs.Opened.{at_nothing, value_at_is, is_open, is_closed, array_found, array_fails, array_too_deep, object_found, object_fails, object_too_deep, text_found, text_fails}
use Rattle.json_reading.specs.Gives.{Fails}
use Rattle.json_reading.specs.declared.fault.Fault.{Fault}
use Rattle.json_reading.specs.declared.fault.Fault.TheVariants as fault
use Rattle.json_reading.specs.declared.fault.Why.TheVariants as why
use Rattle.json_cursor.proofs.Steps.{made}

-- what was read, if anything was, is so
abbrev IfRead : (Json → Type 0) → Option (Json × List ℕ) → Type 0
IfRead Is None = Unit {0}
IfRead Is (Some x) = Is x.0

given : {A : Type 0} (Is : Json → Type 0) (part : Option A) (whole : A → Json × List ℕ) → ((x : A) → Is (whole x).0) → IfRead Is (part >>= λ x. Some (whole x))
given Is None whole h = tt
given Is (Some x) whole h = h x

either : (Is : Json → Type 0) (test : Bool) (one other : Option (Json × List ℕ)) → (test ≡ true → IfRead Is one) → IfRead Is other → IfRead Is (if test then one else other)
either Is true one other h k = h refl
either Is false one other h k = k

differs : (byte b : ℕ) (bs : List ℕ) → None ≡ after_word (byte ∷ []) (b ∷ bs) → eqb b byte ≡ true → ⊥
unfolding after_word
differs byte b bs none same = let wrong : None ≡ Some bs = rw same at none in cc

-- what holds of each value of the other kinds, and of texts, arrays and objects where their byte is first, holds of a value at the front
module _ (Is : Json → Type 0) (null : Is j.Null) (bool : (b : Bool) → Is (j.Bool b)) (number : (t : List ℕ) → Is (j.Number t)) where
  by_byte : (items : Parse (List Json)) (members : Parse (List (List ℕ × Json))) (b : ℕ) (bs : List ℕ) → (eqb b 34 ≡ true → (t : List ℕ) → Is (j.Text t)) → (eqb b 91 ≡ true → (vs : List Json) → Is (j.Array vs)) → (eqb b 123 ≡ true → (ms : List (List ℕ × Json)) → Is (j.Object ms))
      → IfRead Is (value_with is_utf8 items members (b ∷ bs))
  unfolding value_with word_at
  by_byte items members b bs text array object =
      either Is (eqb b 110) _ _ (λ _. given Is (after_word (codes "ull") bs) (λ rest. (j.Null, rest)) (λ _. null))
      (either Is (eqb b 116) _ _ (λ _. given Is (after_word (codes "rue") bs) (λ rest. (j.Bool true, rest)) (λ _. bool true))
      (either Is (eqb b 102) _ _ (λ _. given Is (after_word (codes "alse") bs) (λ rest. (j.Bool false, rest)) (λ _. bool false))
      (either Is (eqb b 34) _ _ (λ same. given Is (string_at is_utf8 bs) (λ t. (j.Text t.0, t.1)) (λ t. text same t.0))
      (either Is (eqb b 91) _ _ (λ same. given Is (items bs) (λ xs. (j.Array xs.0, xs.1)) (λ xs. array same xs.0))
      (either Is (eqb b 123) _ _ (λ same. given Is (members bs) (λ ms. (j.Object ms.0, ms.1)) (λ ms. object same ms.0))
      (given Is (number_at (b ∷ bs)) (λ t. (j.Number t.0, t.1)) (λ t. number t.0)))))))

  by_prefix : (d b : ℕ) (bs rest : List ℕ) (v : Json) → value_at is_utf8 d (b ∷ bs) ≡ Some (v, rest) → (eqb b 34 ≡ true → (t : List ℕ) → Is (j.Text t)) → (eqb b 91 ≡ true → (vs : List Json) → Is (j.Array vs)) → (eqb b 123 ≡ true → (ms : List (List ℕ × Json)) → Is (j.Object ms)) → Is v
  by_prefix d b bs rest v prefix text array object =
      let s = value_at_is is_utf8 d in
      rw (rw s.2 at prefix) at (by_byte s.0 s.1 b bs text array object)

-- a value with another byte than an opening bracket (91) first is no array
pub is_no_array : (d : ℕ) (bytes : List ℕ) → None ≡ after_word (91 ∷ []) bytes → (v : Json) (rest : List ℕ) → value_at is_utf8 d bytes ≡ Some (v, rest) → array_of v ≡ None
is_no_array d [] none v rest prefix = let wrong = sym (at_nothing is_utf8 d [] refl) ∙ prefix in absurd cc
is_no_array d (b ∷ bs) none v rest prefix =
    by_prefix (λ v. array_of v ≡ None) array_of-null array_of-bool array_of-number d b bs rest v prefix (λ same. array_of-text) (λ same. absurd (differs 91 b bs none same)) (λ same. array_of-object)

-- a value with another byte than an opening brace (123) first is no object
pub is_no_object : (d : ℕ) (bytes : List ℕ) → None ≡ after_word (123 ∷ []) bytes → (v : Json) (rest : List ℕ) → value_at is_utf8 d bytes ≡ Some (v, rest) → object_of v ≡ None
is_no_object d [] none v rest prefix = let wrong = sym (at_nothing is_utf8 d [] refl) ∙ prefix in absurd cc
is_no_object d (b ∷ bs) none v rest prefix =
    by_prefix (λ v. object_of v ≡ None) object_of-null object_of-bool object_of-number d b bs rest v prefix (λ same. object_of-text) (λ same. object_of-array) (λ same. absurd (differs 123 b bs none same))

-- a value with another byte than a quotation mark (34) first is no text
pub is_no_text : (bytes : List ℕ) → None ≡ after_word (34 ∷ []) bytes → (d : ℕ) (v : Json) (rest : List ℕ) → value_at is_utf8 d bytes ≡ Some (v, rest) → text_of v ≡ None
is_no_text [] none d v rest prefix = let wrong = sym (at_nothing is_utf8 d [] refl) ∙ prefix in absurd cc
is_no_text (b ∷ bs) none d v rest prefix =
    by_prefix (λ v. text_of v ≡ None) text_of-null text_of-bool text_of-number d b bs rest v prefix (λ same. absurd (differs 34 b bs none same)) (λ same. text_of-array) (λ same. text_of-object)

-- ---- the quotation mark

pub first_byte : (byte : ℕ) (bytes rest : List ℕ) → Some rest ≡ after_word (byte ∷ []) bytes → bytes ≡ byte ∷ rest
unfolding after_word
first_byte byte bytes rest h = grind arith

module _ (bytes inside : List ℕ) (opens : Some inside ≡ after_word (34 ∷ []) bytes) where
  pub is_text : (t rest : List ℕ) → string_at is_utf8 inside ≡ Some (t, rest) → (d : ℕ) → value_at is_utf8 d bytes ≡ Some (j.Text t, rest)
  is_text t rest h d = text_found is_utf8 d 34 bytes inside (first_byte 34 bytes inside opens) refl t rest h

  pub no_text : (f : Fault) → Fails f (string_at is_utf8 inside) → (d : ℕ) → Fails f (value_at is_utf8 d bytes)
  no_text f h d = text_fails is_utf8 d 34 bytes inside (first_byte 34 bytes inside opens) refl f h

-- ---- the bracket

module _ (d : ℕ) (bytes inside : List ℕ) (opens : Some inside ≡ after_word (91 ∷ []) bytes) where
  pub too_deep : d ≡ 0 → value_at is_utf8 d bytes ≡ None
  too_deep h = array_too_deep is_utf8 d 91 bytes inside (first_byte 91 bytes inside opens) refl h

  module _ (depth_left : d ≢ 0) where
    pub is_empty : (rest : List ℕ) → Some rest ≡ after_word (93 ∷ []) (skip inside) → value_at is_utf8 d bytes ≡ Some (j.Array [], rest)
    is_empty rest h = array_found is_utf8 d 91 bytes inside (first_byte 91 bytes inside opens) refl depth_left [] rest (is_closed Json 93 (value_at is_utf8 (d - 1)) inside rest h)

    by_items : (o : Option (List Json × List ℕ)) → items_at 93 (value_at is_utf8 (d - 1)) inside ≡ o → value_at is_utf8 d bytes ≡ made j.Array o
    by_items None h = array_fails is_utf8 d 91 bytes inside (first_byte 91 bytes inside opens) refl depth_left (fault.Malformed why.Syntax 0) h
    by_items (Some x) h = array_found is_utf8 d 91 bytes inside (first_byte 91 bytes inside opens) refl depth_left x.0 x.1 h

    pub is_filled : None ≡ after_word (93 ∷ []) (skip inside) → value_at is_utf8 d bytes ≡ made j.Array (list_at 93 (value_at is_utf8 (d - 1)) (length inside) inside)
    is_filled h = by_items (list_at 93 (value_at is_utf8 (d - 1)) (length inside) inside) (is_open Json 93 (value_at is_utf8 (d - 1)) inside h)

-- ---- the brace

module _ (d : ℕ) (bytes inside : List ℕ) (opens : Some inside ≡ after_word (123 ∷ []) bytes) where
  pub object_deep : d ≡ 0 → value_at is_utf8 d bytes ≡ None
  object_deep h = object_too_deep is_utf8 d 123 bytes inside (first_byte 123 bytes inside opens) refl h

  module _ (depth_left : d ≢ 0) where
    pub no_members : (rest : List ℕ) → Some rest ≡ after_word (125 ∷ []) (skip inside) → value_at is_utf8 d bytes ≡ Some (j.Object [], rest)
    no_members rest h =
        object_found is_utf8 d 123 bytes inside (first_byte 123 bytes inside opens) refl depth_left [] rest (is_closed (List ℕ × Json) 125 (member_at is_utf8 (value_at is_utf8 (d - 1))) inside rest h)

    module _ (filled : None ≡ after_word (125 ∷ []) (skip inside)) where
      members_are : items_at 125 (member_at is_utf8 (value_at is_utf8 (d - 1))) inside ≡ list_at 125 (member_at is_utf8 (value_at is_utf8 (d - 1))) (length inside) inside
      members_are = is_open (List ℕ × Json) 125 (member_at is_utf8 (value_at is_utf8 (d - 1))) inside filled

      pub some_members : (ms : List (List ℕ × Json)) (rest : List ℕ) → list_at 125 (member_at is_utf8 (value_at is_utf8 (d - 1))) (length inside) inside ≡ Some (ms, rest) → value_at is_utf8 d bytes ≡ Some (j.Object ms, rest)
      some_members ms rest h = object_found is_utf8 d 123 bytes inside (first_byte 123 bytes inside opens) refl depth_left ms rest (members_are ∙ h)

      pub members_fail : (f : Fault) → Fails f (list_at 125 (member_at is_utf8 (value_at is_utf8 (d - 1))) (length inside) inside) → Fails f (value_at is_utf8 d bytes)
      members_fail f h = object_fails is_utf8 d 123 bytes inside (first_byte 123 bytes inside opens) refl depth_left f (rw (sym members_are) at h)
