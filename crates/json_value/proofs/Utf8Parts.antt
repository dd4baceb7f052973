-- Values whose number texts, texts and names are all UTF-8: one lemma a variant, from what holds of their parts.
use Rattle.std.proofs.Common.{ℕ, ◌≡◌, Bool, true, List, [], ◌∷◌, arith}
use Rattle.std.specs.Prelude.{◌&&◌, nat_lt, IsUtf8}
use Rattle.std.specs.List.{AllByRecursion}
use Rattle.std.proofs.lemmas.Bool.{and_parts}
use Rattle.std.proofs.lemmas.Bool.Decides.{nat_tests}
use Rattle.std.proofs.lemmas.Str.{IsUtf8-from_ascii}
use Rattle.std.proofs.lemmas.Str.Ascii.{IsAscii-nil}
use Rattle.std.specs.Str.{IsAscii}
use Rattle.decimal_text.specs.Grammar.{IsNumber}
use Rattle.decimal_text.proofs.NumberBytes.{ascii_cons, number_utf8}
use Rattle.json_value.specs.declared.json.Json.{Json}
use Rattle.json_value.specs.declared.json.Json.TheVariants as j
use Rattle.json_value.specs.Numbers.{numbers_of, HasNumbers}
use Rattle.json_value.specs.WellFormed.{texts_of, HasTexts, IsWellFormed}
use Rattle.json_value.proofs.NumbersOf.{all_flat, numbers-null, numbers-number, numbers-text, numbers-array, numbers-object}
use Rattle.json_value.proofs.TextsOf.{texts-null, texts-number, texts-text, texts-array, texts-object}
use Rattle.owned_values.proofs.Elements.{all_weaker}

-- each is UTF-8
abbrev Each : List (List ℕ) → Type 0
Each ts = AllByRecursion (λ t. IsUtf8 t) ts

-- All of them are UTF-8. A number text that is a number is (RFC 8259, section 6).
pub record AreUtf8 (v : Json) : Type 0 where
  pub numbers : AllByRecursion (λ t. IsUtf8 t) (numbers_of v)
  pub texts : HasTexts v

pub parts_utf8 : (v : Json) → HasNumbers v → HasTexts v → AreUtf8 v
parts_utf8 v n t = record { numbers = all_weaker IsNumber (λ z. IsUtf8 z) (λ z h. number_utf8 h) (numbers_of v) n; texts = t }

pub formed_utf8 : (v : Json) → IsWellFormed v → AreUtf8 v
formed_utf8 v h = parts_utf8 v h.numbers h.texts

-- ---- the variants

pub null_utf8 : AreUtf8 j.Null
null_utf8 = record { numbers = rw numbers-null tt; texts = rw texts-null tt }

pub number_value_utf8 : (t : List ℕ) → IsUtf8 t → AreUtf8 (j.Number t)
number_value_utf8 t h = record { numbers = rw (numbers-number t) (h, tt); texts = rw (texts-number t) tt }

pub text_value_utf8 : (t : List ℕ) → IsUtf8 t → AreUtf8 (j.Text t)
text_value_utf8 t h = record { numbers = rw (numbers-text t) tt; texts = rw (texts-text t) (h, tt) }

pub array_utf8 : (vs : List Json) → AllByRecursion AreUtf8 vs → AreUtf8 (j.Array vs)
array_utf8 vs h = record {
  numbers = rw (numbers-array vs) (all_flat (λ t. IsUtf8 t) numbers_of vs (all_weaker AreUtf8 (λ v. Each (numbers_of v)) (λ v u. u.numbers) vs h));
  texts = rw (texts-array vs) (all_flat (λ t. IsUtf8 t) texts_of vs (all_weaker AreUtf8 (λ v. Each (texts_of v)) (λ v u. u.texts) vs h));
}

-- the name of a member is UTF-8, and so are the parts of its value
abbrev pub MemberUtf8 : List ℕ × Json → Type 0
MemberUtf8 m = IsUtf8 m.0 × AreUtf8 m.1

pub object_utf8 : (ms : List (List ℕ × Json)) → AllByRecursion MemberUtf8 ms → AreUtf8 (j.Object ms)
object_utf8 ms h = record {
  numbers = rw (numbers-object ms) (all_flat (λ t. IsUtf8 t) (λ m. numbers_of m.1) ms (all_weaker MemberUtf8 (λ m. Each (numbers_of m.1)) (λ m u. u.1.numbers) ms h));
  texts = rw (texts-object ms) (all_flat (λ t. IsUtf8 t) (λ m. m.0 ∷ texts_of m.1) ms (all_weaker MemberUtf8 (λ m. Each (m.0 ∷ texts_of m.1)) (λ m u. (u.0, u.1.texts)) ms h));
}

-- ---- words

abbrev pub is_ascii : List ℕ → Bool
is_ascii [] = true
is_ascii (b ∷ bs) = nat_lt b 128 && is_ascii bs

-- a list that is written out
pub ascii : (bs : List ℕ) → is_ascii bs ≡ true → IsAscii bs
ascii [] h = IsAscii-nil
ascii (b ∷ bs) h = grind (arith, and_parts, ascii_cons, nat_tests, ascii bs)

pub word : (bs : List ℕ) → is_ascii bs ≡ true → IsUtf8 bs
word bs h = IsUtf8-from_ascii bs (ascii bs h)
