-- The kind of a value by its first byte.
use Rattle.std.proofs.Common.{◌≡◌, ◌≢◌, ℕ, true, false, List, [], ◌∷◌, Option, Some, None, sym, ap, ◌∙◌}
use Rattle.std.specs.Prelude.{codes}
use Rattle.std.specs.Str.{is_utf8}
use Rattle.json_value.specs.declared.json.Json.{Json}
use Rattle.json_value.specs.declared.json.Json.TheVariants as j
use Rattle.json_value.specs.Reading.{◌>>=◌, after_word, word_at, string_at, number_at, value_with, value_at}
use Rattle.json_reading.proofs.Opened.{at_nothing, value_at_is}
use Rattle.json_reading.proofs.Steps.{not_equal}
use Rattle.json_cursor.specs.Kinds.{kind_in, kind_of}
use Rattle.json_cursor.specs.declared.kinds.Kind.{Kind}
use Rattle.json_cursor.specs.declared.kinds.Kind.TheVariants as kind

-- what was read, if anything was, is of this kind
abbrev IfRead : Kind → Option (Json × List ℕ) → Type 0
IfRead k None = Unit {0}
IfRead k (Some x) = k ≡ kind_of x.0

given : {A : Type 0} (k : Kind) (part : Option A) (whole : A → Json × List ℕ) → ((x : A) → k ≡ kind_of (whole x).0) → IfRead k (part >>= λ x. Some (whole x))
given k None whole h = tt
given k (Some x) whole h = h x

by_read : (k : Kind) (read : Option (Json × List ℕ)) (v : Json) (rest : List ℕ) → IfRead k read → read ≡ Some (v, rest) → k ≡ kind_of v
by_read k read v rest h is = rw is at h

module _ (bytes : List ℕ) (d : ℕ) (v : Json) (rest : List ℕ) (prefix : value_at is_utf8 d bytes ≡ Some (v, rest)) where
  pub nothing_first : bytes ≡ [] → (k : Kind) → k ≡ kind_of v
  nothing_first none k = let wrong = sym (at_nothing is_utf8 d bytes none) ∙ prefix in absurd cc

  module _ (b : ℕ) (inside : List ℕ) (first : bytes ≡ b ∷ inside) where
    pub null_first : b ≡ 110 → kind.Null ≡ kind_of v
    unfolding value_with word_at
    null_first is = by_read kind.Null (value_at is_utf8 d bytes) v rest (rw ((value_at_is is_utf8 d).2, first, is) (given kind.Null (after_word (codes "ull") inside) (λ r. (j.Null, r)) (λ _. sym (ap kind_in j.outs-Null)))) prefix

    pub true_first : b ≡ 116 → kind.Bool ≡ kind_of v
    unfolding value_with word_at
    true_first is = by_read kind.Bool (value_at is_utf8 d bytes) v rest (rw ((value_at_is is_utf8 d).2, first, is) (given kind.Bool (after_word (codes "rue") inside) (λ r. (j.Bool true, r)) (λ _. sym (ap kind_in (j.outs-Bool true))))) prefix

    pub false_first : b ≡ 102 → kind.Bool ≡ kind_of v
    unfolding value_with word_at
    false_first is = by_read kind.Bool (value_at is_utf8 d bytes) v rest (rw ((value_at_is is_utf8 d).2, first, is) (given kind.Bool (after_word (codes "alse") inside) (λ r. (j.Bool false, r)) (λ _. sym (ap kind_in (j.outs-Bool false))))) prefix

    pub text_first : b ≡ 34 → kind.Text ≡ kind_of v
    unfolding value_with word_at
    text_first is = by_read kind.Text (value_at is_utf8 d bytes) v rest (rw ((value_at_is is_utf8 d).2, first, is) (given kind.Text (string_at is_utf8 inside) (λ t. (j.Text t.0, t.1)) (λ t. sym (ap kind_in (j.outs-Text t.0))))) prefix

    pub array_first : b ≡ 91 → kind.Array ≡ kind_of v
    unfolding value_with word_at
    array_first is = by_read kind.Array (value_at is_utf8 d bytes) v rest (rw ((value_at_is is_utf8 d).2, first, is) (given kind.Array ((value_at_is is_utf8 d).0 inside) (λ xs. (j.Array xs.0, xs.1)) (λ xs. sym (ap kind_in (j.outs-Array xs.0))))) prefix

    pub object_first : b ≡ 123 → kind.Object ≡ kind_of v
    unfolding value_with word_at
    object_first is = by_read kind.Object (value_at is_utf8 d bytes) v rest (rw ((value_at_is is_utf8 d).2, first, is) (given kind.Object ((value_at_is is_utf8 d).1 inside) (λ ms. (j.Object ms.0, ms.1)) (λ ms. sym (ap kind_in (j.outs-Object ms.0))))) prefix

    pub number_first : b ≢ 110 → b ≢ 116 → b ≢ 102 → b ≢ 34 → b ≢ 91 → b ≢ 123 → kind.Number ≡ kind_of v
    unfolding value_with word_at
    number_first n t f q a o = by_read kind.Number (value_at is_utf8 d bytes) v rest (rw ((value_at_is is_utf8 d).2, first, not_equal b 110 n, not_equal b 116 t, not_equal b 102 f, not_equal b 34 q, not_equal b 91 a, not_equal b 123 o) (given kind.Number (number_at (b ∷ inside)) (λ t. (j.Number t.0, t.1)) (λ t. sym (ap kind_in (j.outs-Number t.0))))) prefix
