-- How a value and a member go on, step by step.
use Rattle.std.proofs.Common.{◌≡◌, ◌≢◌, ℕ, zero, suc, ◌-◌, Bool, true, false, List, [], ◌∷◌, length, Some, None, refl, ◌∙◌, arith}
use Rattle.std.specs.Prelude.{codes}
use Rattle.json_value.specs.declared.json.Json.{Json}
use Rattle.json_value.specs.declared.json.Json.TheVariants as j
use Rattle.json_reading.specs.declared.fault.Fault.{Fault}
use Rattle.json_reading.specs.declared.fault.Fault.TheVariants as fault
use Rattle.json_reading.specs.Gives.{Fails}
use Rattle.json_value.specs.Reading.{Parse, ◌>>=◌, skip, after_word, word_at, string_at, number_at, list_at, closes, items_unless, items_at, name_at, member_at, value_with, value_at}
use Rattle.json_reading.proofs.Steps.{not_equal}

pub is_closed : (A : Type 0) (close : ℕ) (item : Parse A) (bs rest : List ℕ) → Some rest ≡ after_word (close ∷ []) (skip bs) → items_at close item bs ≡ Some ([], rest)
is_closed A close item bs rest h = unfold items_at items_unless closes in rw (← h) refl

pub is_open : (A : Type 0) (close : ℕ) (item : Parse A) (bs : List ℕ) → None ≡ after_word (close ∷ []) (skip bs) → items_at close item bs ≡ list_at close item (length bs) bs
is_open A close item bs h = unfold items_at items_unless closes in rw (← h) refl

module _ (fits : List ℕ → Bool) where
  pub value_at_is : (d : ℕ) → (items : Parse (List Json)) × (members : Parse (List (List ℕ × Json))) × (value_at fits d ≡ value_with fits items members)
  unfolding value_at
  value_at_is zero = (λ _. None, λ _. None, refl)
  value_at_is (suc d) = (items_at 93 (value_at fits d), items_at 125 (member_at fits (value_at fits d)), refl)

  -- how a value goes on, after each first byte
  module _ (d b : ℕ) (bs rest : List ℕ) (first : bs ≡ b ∷ rest) where
    pub at_n : b ≡ 110 → value_at fits d bs ≡ word_at (codes "ull") j.Null rest
    at_n h = unfold value_with in rw ((value_at_is d).2, first, h) refl

    pub at_t : b ≡ 116 → value_at fits d bs ≡ word_at (codes "rue") (j.Bool true) rest
    at_t h = unfold value_with in rw ((value_at_is d).2, first, h) refl

    pub at_f : b ≡ 102 → value_at fits d bs ≡ word_at (codes "alse") (j.Bool false) rest
    at_f h = unfold value_with in rw ((value_at_is d).2, first, h) refl

    at_text : b ≡ 34 → value_at fits d bs ≡ (string_at fits rest >>= λ t. Some (j.Text t.0, t.1))
    at_text h = unfold value_with in rw ((value_at_is d).2, first, h) refl

    pub text_fails : b ≡ 34 → (e : Fault) → Fails e (string_at fits rest) → Fails e (value_at fits d bs)
    text_fails h e k = grind (arith, at_text)

    pub text_found : b ≡ 34 → (t after : List ℕ) → string_at fits rest ≡ Some (t, after) → value_at fits d bs ≡ Some (j.Text t, after)
    text_found h t after f = at_text h ∙ rw f refl

    at_number : b ≢ 110 → b ≢ 116 → b ≢ 102 → b ≢ 34 → b ≢ 91 → b ≢ 123 → value_at fits d bs ≡ (number_at bs >>= λ t. Some (j.Number t.0, t.1))
    unfolding value_with
    at_number n t f q a o = rw ((value_at_is d).2, first, not_equal b 110 n, not_equal b 116 t, not_equal b 102 f, not_equal b 34 q, not_equal b 91 a, not_equal b 123 o) refl

    pub number_fails : b ≢ 110 → b ≢ 116 → b ≢ 102 → b ≢ 34 → b ≢ 91 → b ≢ 123 → (e : Fault) → Fails e (number_at bs) → Fails e (value_at fits d bs)
    number_fails h k m f t u e w = grind (arith, at_number)

    pub number_found : b ≢ 110 → b ≢ 116 → b ≢ 102 → b ≢ 34 → b ≢ 91 → b ≢ 123 → (t after : List ℕ) → number_at bs ≡ Some (t, after) → value_at fits d bs ≡ Some (j.Number t, after)
    number_found n t f q a o text after r = at_number n t f q a o ∙ rw r refl

    pub array_too_deep : b ≡ 91 → d ≡ 0 → value_at fits d bs ≡ None
    array_too_deep h e = unfold value_at value_with in rw (e, first, h) refl

    at_array : b ≡ 91 → (less : ℕ) → d ≡ suc less → value_at fits d bs ≡ (items_at 93 (value_at fits less) rest >>= λ xs. Some (j.Array xs.0, xs.1))
    at_array h less e = unfold value_at value_with in rw (e, first, h) refl

    pub array_fails : b ≡ 91 → d ≢ 0 → (e : Fault) → Fails e (items_at 93 (value_at fits (d - 1)) rest) → Fails e (value_at fits d bs)
    array_fails h depth_left fault.Memory f = tt
    array_fails h depth_left (fault.Malformed why left) f = at_array h (d - 1) (omega arith) ∙ rw f refl

    pub array_found : b ≡ 91 → d ≢ 0 → (vs : List Json) (after : List ℕ) → items_at 93 (value_at fits (d - 1)) rest ≡ Some (vs, after) → value_at fits d bs ≡ Some (j.Array vs, after)
    array_found h depth_left vs after f = at_array h (d - 1) (omega arith) ∙ rw f refl

    pub object_too_deep : b ≡ 123 → d ≡ 0 → value_at fits d bs ≡ None
    object_too_deep h e = unfold value_at value_with in rw (e, first, h) refl

    at_object : b ≡ 123 → (less : ℕ) → d ≡ suc less → value_at fits d bs ≡ (items_at 125 (member_at fits (value_at fits less)) rest >>= λ ms. Some (j.Object ms.0, ms.1))
    at_object h less e = unfold value_at value_with in rw (e, first, h) refl

    pub object_fails : b ≡ 123 → d ≢ 0 → (e : Fault) → Fails e (items_at 125 (member_at fits (value_at fits (d - 1))) rest) → Fails e (value_at fits d bs)
    object_fails h depth_left fault.Memory f = tt
    object_fails h depth_left (fault.Malformed why left) f = at_object h (d - 1) (omega arith) ∙ rw f refl

    pub object_found : b ≡ 123 → d ≢ 0 → (ms : List (List ℕ × Json)) (after : List ℕ) → items_at 125 (member_at fits (value_at fits (d - 1))) rest ≡ Some (ms, after) → value_at fits d bs ≡ Some (j.Object ms, after)
    object_found h depth_left ms after f = at_object h (d - 1) (omega arith) ∙ rw f refl

  pub at_nothing : (d : ℕ) (bs : List ℕ) → bs ≡ [] → value_at fits d bs ≡ None
  at_nothing d bs h = unfold value_with in rw ((value_at_is d).2, h) refl

  -- a member, step by step
  module _ (value : Parse Json) (bs : List ℕ) where
    pub name_fails : (e : Fault) → Fails e (name_at fits bs) → Fails e (member_at fits value bs)
    name_fails e h = unfold member_at in grind arith

    module _ (name n : List ℕ) (named : name_at fits bs ≡ Some (name, n)) where
      pub no_colon : None ≡ after_word (58 ∷ []) (skip n) → member_at fits value bs ≡ None
      no_colon h = unfold member_at in rw (named, ← h) refl

      module _ (rest : List ℕ) (colon : Some rest ≡ after_word (58 ∷ []) (skip n)) where
        pub value_fails : (e : Fault) → Fails e (value (skip rest)) → Fails e (member_at fits value bs)
        value_fails e h = unfold member_at in grind arith

        pub member_found : (v : Json) (after : List ℕ) → value (skip rest) ≡ Some (v, after) → member_at fits value bs ≡ Some ((name, v), after)
        member_found v after f = unfold member_at in rw (named, ← colon, f) refl
