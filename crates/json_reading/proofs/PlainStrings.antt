-- Strings that stand in the text as they are.
use Rattle.std.proofs.Common.{◌≡◌, ℕ, zero, suc, ◌+◌, ◌-◌, ◌<◌, ◌≤◌, Bool, true, false, cond, List, [], ◌∷◌, ◌++◌, length, get_or, take, drop, Some, refl, sym, ap, ◌∙◌, append_assoc, length-append, arith}
use Rattle.std.specs.Prelude.{nat_le, ◌&&◌}
use Rattle.std.specs.List.{prefix_len}
use Rattle.std.proofs.Math.Seq.{take-append_seam}
use Rattle.std.proofs.lemmas.Bool.{and_parts}
use Rattle.std.proofs.lemmas.List.{length-take-le, take-append-drop}
use Rattle.std.proofs.lemmas.List.Sums.{prefix_len-le-length}
use Rattle.std.proofs.lemmas.Bool.Decides.{nat_tests}
use Rattle.std.proofs.lemmas.Str.{IsUtf8-from_ascii, is_utf8-from_IsUtf8}
use Rattle.std.specs.Str.{is_utf8}
use Rattle.json_value.specs.Grammar.{is_plain}
use Rattle.json_value.specs.Reading.{after_plain, plain_prefix, chars_at, chars_after, if_text, string_at}
use Rattle.json_reading.specs.Strings.{EndsPlain, PassesSimple, is_simple, simple}

low : (b : ℕ) → nat_le b 127 ≡ true → b < 128
low b h = grind (arith, nat_tests)

ascii : (bs : List ℕ) → simple bs ≡ true → (i : ℕ) → get_or bs i 0 < 128
ascii [] h i = omega arith
ascii (b ∷ bs) h zero = low b (and_parts (nat_le b 127) (is_plain b) (and_parts (is_simple b) (simple bs) h).0).0
ascii (b ∷ bs) h (suc i) = ascii bs (and_parts (is_simple b) (simple bs) h).1 i

fits : (t : List ℕ) → simple t ≡ true → is_utf8 t ≡ true
fits t h = is_utf8-from_IsUtf8 t (IsUtf8-from_ascii t (ascii t h))

prefix_is : (t rest : List ℕ) → simple t ≡ true → plain_prefix (t ++ 34 ∷ rest) ≡ t
unfolding plain_prefix
prefix_is [] rest h = refl
prefix_is (b ∷ t) rest h =
    let e = and_parts (is_simple b) (simple t) h in
    rw (and_parts (nat_le b 127) (is_plain b) e.0).1 (ap (λ x. b ∷ x) (prefix_is t rest e.1))

after_is : (t rest : List ℕ) → simple t ≡ true → after_plain (t ++ 34 ∷ rest) ≡ 34 ∷ rest
unfolding after_plain
after_is [] rest h = refl
after_is (b ∷ t) rest h =
    let e = and_parts (is_simple b) (simple t) h in
    rw (and_parts (nat_le b 127) (is_plain b) e.0).1 (after_is t rest e.1)

chars_are : (n : ℕ) (t rest : List ℕ) → simple t ≡ true → chars_at (suc n) (t ++ 34 ∷ rest) ≡ Some (t, rest)
unfolding chars_at chars_after
chars_are n t rest h = rw (prefix_is t rest h, after_is t rest h) refl

string_is : (t rest : List ℕ) → simple t ≡ true → string_at is_utf8 (t ++ 34 ∷ rest) ≡ Some (t, rest)
unfolding string_at if_text
string_is t rest h = grind (arith, length-append t (34 ∷ rest), chars_are (length t + length rest) t rest h, fits t h)

pub plain_string : (inside name rest : List ℕ) → EndsPlain inside name rest → string_at is_utf8 inside ≡ Some (name, rest)
plain_string inside name rest h = ap (string_at is_utf8) h.0 ∙ string_is name rest h.1

-- a word, and a quotation mark (34) after it
pub word_ends : (inside word quoted rest : List ℕ) → inside ≡ word ++ quoted → quoted ≡ 34 ∷ rest → simple word ≡ true → EndsPlain inside word rest
word_ends inside word quoted rest h k plain = (h ∙ ap (λ z. word ++ z) k, plain)

true_both : (a b : Bool) → a ≡ true → b ≡ true → (a && b) ≡ true
true_both a b h k = rw (h, k) refl

simple_both : (s t : List ℕ) → simple s ≡ true → simple t ≡ true → simple (s ++ t) ≡ true
simple_both [] t h k = k
simple_both (b ∷ s) t h k =
    let e = and_parts (is_simple b) (simple s) h in
    true_both (is_simple b) (simple (s ++ t)) e.0 (simple_both s t e.1 k)

-- ---- the first bytes, looked at together

one_more : (t : Bool) (b n : ℕ) (bs : List ℕ) → is_simple b ≡ t → simple (take n bs) ≡ true → simple (take (cond t (1 + n) 0) (b ∷ bs)) ≡ true
one_more true b n bs h k = let e : 1 + n ≡ suc n = omega arith in rw e (true_both (is_simple b) (simple (take n bs)) h k)
one_more false b n bs h k = refl

prefix_simple : (m : ℕ) (bs : List ℕ) → simple (take (prefix_len is_simple (take m bs)) bs) ≡ true
prefix_simple zero bs = refl
prefix_simple (suc m) [] = refl
prefix_simple (suc m) (b ∷ bs) = one_more (is_simple b) b (prefix_len is_simple (take m bs)) bs refl (prefix_simple m bs)

module _ (bs : List ℕ) (n : ℕ) (is : n ≡ prefix_len is_simple (take 16 bs)) where
  pub few : 16 ≤ length bs → n ≤ length bs
  few h = omega (arith, is, h, length-take-le 16 bs h, prefix_len-le-length is_simple (take 16 bs))

  pub prefix_passed : (rest : List ℕ) → rest ≡ drop n bs → PassesSimple bs rest
  prefix_passed rest h = (take n bs, rw h (sym (take-append-drop n bs)), rw is (prefix_simple 16 bs))

-- ---- one byte more

module _ (inside rest found more : List ℕ) (b : ℕ) (before : PassesSimple inside rest) (then : PassesSimple rest found) (split : found ≡ b ∷ more) where
  both : inside ≡ (before.0 ++ then.0) ++ b ∷ more
  both = before.1 ∙ ap (λ z. before.0 ++ z) (then.1 ∙ ap (λ z. then.0 ++ z) split) ∙ sym (append_assoc before.0 then.0 (b ∷ more))

  so_far : simple (before.0 ++ then.0) ≡ true
  so_far = simple_both before.0 then.0 before.2 then.2

  pub one_passed : is_simple b ≡ true → PassesSimple inside more
  one_passed h = ((before.0 ++ then.0) ++ b ∷ [], both ∙ sym (append_assoc (before.0 ++ then.0) (b ∷ []) more), simple_both (before.0 ++ then.0) (b ∷ []) so_far (true_both (is_simple b) true h refl))

  pub shorter : length more < length rest
  shorter = omega (arith, ap length then.1, length-append then.0 found, ap length split)

  pub string_ends : (n : ℕ) (text : List ℕ) → b ≡ 34 → n ≡ length inside - length more - 1 → text ≡ take n inside → EndsPlain inside text more
  string_ends n text quote count prefix =
      let long : n ≡ length (before.0 ++ then.0) = omega (arith, count, ap length both, length-append (before.0 ++ then.0) (b ∷ more)) in
      let is : text ≡ before.0 ++ then.0 = prefix ∙ ap (λ k. take k inside) long ∙ ap (take (length (before.0 ++ then.0))) both ∙ take-append_seam (before.0 ++ then.0) (b ∷ more) in
      (both ∙ ap (λ z. (before.0 ++ then.0) ++ z ∷ more) quote ∙ ap (λ z. z ++ 34 ∷ more) (sym is), ap simple is ∙ so_far)
