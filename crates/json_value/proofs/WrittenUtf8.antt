-- The text that is written for a value is UTF-8 where its numbers, texts and names are, and so for a well-formed value.
use Rattle.std.proofs.Common.{◌≡◌, ℕ, ◌<◌, Bool, true, false, inl, inr, List, [], ◌∷◌, ◌++◌, map, if◌then◌else◌, refl, sym, subst, append_assoc, arith}
use Rattle.std.specs.Prelude.{IsUtf8, codes}
use Rattle.std.specs.Str.{IsAscii}
use Rattle.std.specs.List.{AllByRecursion}
use Rattle.std.proofs.lemmas.Bool.Decides.{nat_tests}
use Rattle.std.proofs.lemmas.Str.{IsUtf8-append, IsUtf8-from_ascii}
use Rattle.std.proofs.lemmas.Str.Ascii.{IsAscii-nil}
use Rattle.decimal_text.proofs.NumberBytes.{ascii_cons}
use Rattle.owned_values.specs.Commas.{comma_unless, with_commas, comma_separated}
use Rattle.json_value.specs.declared.json.Json.{Json}
use Rattle.json_value.specs.declared.json.Json.TheVariants as j
use Rattle.json_value.specs.Grammar.{is_plain}
use Rattle.json_value.specs.Text.{json_text, hex_digit, escaped_byte, escaped, quoted}
use Rattle.json_value.specs.WellFormed.{IsWellFormed}
use Rattle.json_value.proofs.Inherits.{Inherits, inherited}
use Rattle.json_value.proofs.Runs.{plain_stays, plain_decides}
use Rattle.json_value.proofs.Texts.{text-null, text-bool, text-number, text-text, text-array, text-object, one_member}
use Rattle.json_value.proofs.Utf8.{ascii_split, ascii_one as one_utf8}
use Rattle.json_value.proofs.Utf8Parts.{AreUtf8, formed_utf8, ascii, word}
use Rattle.owned_values.proofs.Elements.{all_map, all_weaker}

-- ---- strings

ascii_one : (a : ℕ) → a < 128 → IsAscii (a ∷ [])
ascii_one a p = ascii_cons a [] p IsAscii-nil

either : (b : Bool) (s t : List ℕ) → IsAscii s → IsAscii t → IsAscii (if b then s else t)
either b s t h k = grind arith

hex_ascii : (n : ℕ) → n < 16 → hex_digit n < 128
hex_ascii n h = grind (arith, nat_tests)

escape_ascii : (b : ℕ) → b < 128 → IsAscii (escaped_byte b)
escape_ascii b h = unfold escaped_byte in grind (arith, either, ascii, ascii_cons, hex_ascii, ascii_one)

not_plain : (b : ℕ) → is_plain b ≡ false → b < 128
not_plain b h = grind (arith, nat_tests)

-- Bytes that stand for themselves stay in their characters, and each other byte is a character.
escaped_after : (t p : List ℕ) → IsUtf8 (p ++ t) → IsUtf8 (p ++ escaped t)
escaped_after [] p h = h
escaped_after (b ∷ t) p h = elim (plain_decides b) [
  | inl plain ↦ rw (plain_stays b plain) (subst (λ z. IsUtf8 z) (append_assoc p (b ∷ []) (escaped t))
      (escaped_after t (p ++ b ∷ []) (subst (λ z. IsUtf8 z) (sym (append_assoc p (b ∷ []) t)) h)))
  | inr other ↦ (let small = not_plain b other in
      let cut = ascii_split p t b small h in
      IsUtf8-append p (escaped_byte b ++ escaped t) cut.0
      (IsUtf8-append (escaped_byte b) (escaped t) (IsUtf8-from_ascii _ (escape_ascii b small)) (escaped_after t [] cut.1)))
]

pub quoted_utf8 : (t : List ℕ) → IsUtf8 t → IsUtf8 (quoted t)
quoted_utf8 t h =
    IsUtf8-append (34 ∷ escaped t) (34 ∷ []) (IsUtf8-append (34 ∷ []) (escaped t) (one_utf8 34 (omega arith)) (escaped_after t [] h)) (one_utf8 34 (omega arith))

-- ---- lists

comma_utf8 : (is_first : Bool) → IsUtf8 (comma_unless is_first)
comma_utf8 true = IsUtf8-from_ascii [] IsAscii-nil
comma_utf8 false = one_utf8 44 (omega arith)

pub commas_utf8 : (is_first : Bool) (ts : List (List ℕ)) → AllByRecursion IsUtf8 ts → IsUtf8 (with_commas is_first ts)
commas_utf8 is_first [] h = IsUtf8-from_ascii [] IsAscii-nil
commas_utf8 is_first (t ∷ ts) h =
    IsUtf8-append (comma_unless is_first) (t ++ with_commas false ts) (comma_utf8 is_first) (IsUtf8-append t (with_commas false ts) h.0 (commas_utf8 false ts h.1))

-- a list between its brackets
bracketed : (x y : ℕ) (ts : List (List ℕ)) → x < 128 → y < 128 → AllByRecursion IsUtf8 ts → IsUtf8 (x ∷ comma_separated ts ++ y ∷ [])
bracketed x y ts p q h =
    IsUtf8-append (x ∷ comma_separated ts) (y ∷ []) (IsUtf8-append (x ∷ []) (comma_separated ts) (one_utf8 x p) (commas_utf8 true ts h)) (one_utf8 y q)

-- ---- each value

member_utf8 : (m : List ℕ × Json) → IsUtf8 m.0 × IsUtf8 (json_text m.1) → IsUtf8 (one_member m)
member_utf8 m h = IsUtf8-append (quoted m.0 ++ 58 ∷ []) (json_text m.1) (IsUtf8-append (quoted m.0) (58 ∷ []) (quoted_utf8 m.0 h.0) (one_utf8 58 (omega arith))) h.1

bool_utf8 : (n : ℕ) (b : Bool) → IsUtf8 (json_text (j.Bool b))
bool_utf8 n true = rw (text-bool true) (word (codes "true") refl)
bool_utf8 n false = rw (text-bool false) (word (codes "false") refl)

written_inherits : Inherits (λ t. IsUtf8 t) (λ t. IsUtf8 t) (λ n v. IsUtf8 (json_text v))
written_inherits = record {
  word = word;
  null = λ n. rw text-null (word (codes "null") refl);
  bool = bool_utf8;
  number = λ n t h. rw (text-number t) h;
  text = λ n t h. rw (text-text t) (quoted_utf8 t h);
  array = λ n vs h. rw (text-array vs) (bracketed 91 93 (map json_text vs) (omega arith) (omega arith) (all_map (λ t. IsUtf8 t) json_text vs h));
  object = λ n ms h. rw (text-object ms) (bracketed 123 125 (map one_member ms) (omega arith) (omega arith)
      (all_map (λ t. IsUtf8 t) one_member ms (all_weaker (λ m. IsUtf8 m.0 × IsUtf8 (json_text m.1)) (λ m. IsUtf8 (one_member m)) member_utf8 ms h)));
  deeper = λ n k v le h. h;
}

pub parts_written_utf8 : (v : Json) → AreUtf8 v → IsUtf8 (json_text v)
parts_written_utf8 v h = inherited written_inherits v h.numbers h.texts

pub written_utf8 : (v : Json) → IsWellFormed v → IsUtf8 (json_text v)
written_utf8 v h = parts_written_utf8 v (formed_utf8 v h)
