-- Strings, as they are copied.
use Rattle.std.proofs.Common.{◌≡◌, ℕ, zero, suc, ◌+◌, ◌<◌, ◌≤◌, true, false, inl, inr, ◌⊎◌, Bool, List, [], ◌∷◌, ◌++◌, take, drop, length, get_or, Some, one-add, refl, sym, ap, ◌∙◌, append_assoc, arith}
use Rattle.std.specs.Prelude.{IsUtf8, nat_le}
use Rattle.std.specs.List.{prefix_len, AllByRecursion}
use Rattle.std.proofs.lemmas.Bool.{and_parts}
use Rattle.std.proofs.lemmas.Bool.Decides.{nat_tests}
use Rattle.std.proofs.lemmas.Str.{IsUtf8-from_ascii, is_utf8-from_IsUtf8}
use Rattle.json_value.specs.Grammar.{is_plain, SpellsChars, chars_end, chars_plain}
use Rattle.json_value.specs.Text.{escaped, quoted}
use Rattle.json_value.proofs.Runs.{plain_stays}
use Rattle.json_value.specs.Reading.{after_word, plain_prefix, after_plain, name_at, string_at}
use Rattle.json_reading.proofs.StringsRead.{plain-split}
use Rattle.json_reading.proofs.StringsFound.{string_again}
use Rattle.json_cursor.specs.Copying.{any, is_simple, Copies}

-- ---- the bytes in front that pass a test

tells : (test : ℕ → Bool) (b : ℕ) → (test b ≡ true) ⊎ (test b ≡ false)
tells test b = elim (test b) as (λ x. (x ≡ true) ⊎ (x ≡ false)) [ true ↦ inl refl | false ↦ inr refl ]

pub prefix_passes : (test : ℕ → Bool) (bs : List ℕ) → AllByRecursion (λ b. test b ≡ true) (take (prefix_len test bs) bs)
prefix_passes test [] = tt
prefix_passes test (b ∷ bs) = elim (tells test b) [
  | inl h ↦ rw (h, one-add) (h, prefix_passes test bs)
  | inr h ↦ rw h tt
]

cut : (n : ℕ) (bs : List ℕ) → bs ≡ take n bs ++ drop n bs
cut zero bs = refl
cut (suc n) [] = refl
cut (suc n) (b ∷ bs) = ap (λ z. b ∷ z) (cut n bs)

-- ---- plain bytes

plain_spells : (t : List ℕ) → AllByRecursion (λ b. is_plain b ≡ true) t → SpellsChars t t
plain_spells [] h = chars_end
plain_spells (b ∷ t) h = chars_plain b h.0 (plain_spells t h.1)

plain_escaped : (t : List ℕ) → AllByRecursion (λ b. is_plain b ≡ true) t → escaped t ≡ t
plain_escaped [] h = refl
plain_escaped (b ∷ t) h = rw (plain_stays b h.0) (ap (λ z. b ∷ z) (plain_escaped t h.1))

-- a string of such bytes, after its first quotation mark
pub plain_string : (t rest : List ℕ) → AllByRecursion (λ b. is_plain b ≡ true) t → IsUtf8 t → string_at any (t ++ 34 ∷ rest) ≡ Some (t, rest)
plain_string t rest h utf8 = string_again any t t rest (plain_spells t h) (is_utf8-from_IsUtf8 t utf8)

pub plain_quoted : (t : List ℕ) → AllByRecursion (λ b. is_plain b ≡ true) t → quoted t ≡ 34 ∷ (t ++ 34 ∷ [])
plain_quoted t h = ap (λ z. 34 ∷ (z ++ 34 ∷ [])) (plain_escaped t h)

-- ---- ASCII bytes among them

low : (b : ℕ) → nat_le b 127 ≡ true → b < 128
low b h = grind (arith, nat_tests)

simple_plain : (t : List ℕ) → AllByRecursion (λ b. is_simple b ≡ true) t → AllByRecursion (λ b. is_plain b ≡ true) t
simple_plain [] h = tt
simple_plain (b ∷ t) h = ((and_parts (nat_le b 127) (is_plain b) h.0).1, simple_plain t h.1)

simple_ascii : (t : List ℕ) → AllByRecursion (λ b. is_simple b ≡ true) t → (i : ℕ) → get_or t i 0 < 128
simple_ascii [] h i = omega arith
simple_ascii (b ∷ t) h zero = low b (and_parts (nat_le b 127) (is_plain b) h.0).0
simple_ascii (b ∷ t) h (suc i) = simple_ascii t h.1 i

-- ---- what is copied

prefix_plain : (bs : List ℕ) → AllByRecursion (λ b. is_plain b ≡ true) (plain_prefix bs)
unfolding plain_prefix
prefix_plain [] = tt
prefix_plain (b ∷ bs) = elim (tells is_plain b) [
  | inl h ↦ rw h (h, prefix_plain bs)
  | inr h ↦ rw h tt
]

pub characters_copied : (inside run following rest old one two new : List ℕ) → run ≡ plain_prefix inside → following ≡ after_plain inside → following ≡ 34 ∷ rest → IsUtf8 run
    → one ≡ old ++ 34 ∷ [] → two ≡ one ++ run → new ≡ two ++ 34 ∷ [] → Copies (string_at any) quoted inside rest old new
characters_copied inside run following rest old one two new prefix back quote utf8 p q r =
    let plain : AllByRecursion (λ b. is_plain b ≡ true) run = rw prefix (prefix_plain inside) in
    let split : inside ≡ run ++ 34 ∷ rest = plain-split inside ∙ rw (← prefix, ← back, quote) refl in
    record {
      thing = run;
      found = ap (string_at any) split ∙ plain_string run rest plain utf8;
      text = r ∙ ap (λ z. z ++ 34 ∷ []) (q ∙ ap (λ z. z ++ run) p) ∙ append_assoc (old ++ 34 ∷ []) run (34 ∷ []) ∙ append_assoc old (34 ∷ []) (run ++ 34 ∷ []) ∙ ap (λ z. old ++ z) (sym (plain_quoted run plain));
    }

pub inside_copied : (bytes inside rest old new : List ℕ) → bytes ≡ 34 ∷ inside → Copies (string_at any) quoted inside rest old new → Copies (name_at any) quoted bytes rest old new
unfolding name_at after_word
inside_copied bytes inside rest old new first c = record { thing = c.thing; found = ap (name_at any) first ∙ c.found; text = c.text }

-- the bytes up to the last quotation mark
piece_is : (run rest : List ℕ) → take (length run + 2) (34 ∷ (run ++ 34 ∷ rest)) ≡ 34 ∷ (run ++ 34 ∷ [])
piece_is run rest = rw (two_more (length run)) (ap (λ z. 34 ∷ z) (up_to run rest))
  where
    two_more : (n : ℕ) → n + 2 ≡ suc (suc n)
    two_more n = omega arith

    up_to : (run rest : List ℕ) → take (suc (length run)) (run ++ 34 ∷ rest) ≡ run ++ 34 ∷ []
    up_to [] rest = refl
    up_to (b ∷ run) rest = ap (λ z. b ∷ z) (up_to run rest)

module _ (bytes inside following rest : List ℕ) (n : ℕ) (first : bytes ≡ 34 ∷ inside) (many : n ≡ prefix_len is_simple inside) (back : following ≡ drop n inside) (quote : following ≡ 34 ∷ rest) where
  split : inside ≡ take n inside ++ 34 ∷ rest
  split = cut n inside ∙ ap (λ z. take n inside ++ z) (sym back ∙ quote)

  run_length : n ≤ length inside → length (take n inside) ≡ n
  run_length le = let l = ap length (cut n inside) in length_take n inside le
    where
      length_take : (n : ℕ) (bs : List ℕ) → n ≤ length bs → length (take n bs) ≡ n
      length_take zero bs le = refl
      length_take (suc n) [] le = absurd (omega arith)
      length_take (suc n) (b ∷ bs) le = ap suc (length_take n bs (omega arith))

  pub string_copied : n ≤ length inside → (string old new : List ℕ) → string ≡ take (n + 2) bytes → new ≡ old ++ string → Copies (name_at any) quoted bytes rest old new
  string_copied le string old new piece pushed =
      let run : List ℕ = take n inside in
      let simple : AllByRecursion (λ b. is_simple b ≡ true) run = rw many (prefix_passes is_simple inside) in
      let plain = simple_plain run simple in
      let found : string_at any inside ≡ Some (run, rest) = ap (string_at any) split ∙ plain_string run rest plain (IsUtf8-from_ascii run (simple_ascii run simple)) in
      let text : string ≡ quoted run =
      piece ∙ ap (λ z. take (n + 2) z) (first ∙ ap (λ z. 34 ∷ z) split) ∙ ap (λ m. take (m + 2) (34 ∷ (run ++ 34 ∷ rest))) (sym (run_length le)) ∙ piece_is run rest ∙ sym (plain_quoted run plain) in
      inside_copied bytes inside rest old new first (record { thing = run; found = found; text = pushed ∙ ap (λ z. old ++ z) text })
