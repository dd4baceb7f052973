-- The text of a string that stands in a UTF-8 text is UTF-8.
use Rattle.std.proofs.Common.{◌≡◌, ℕ, ◌+◌, ◌<◌, true, false, List, [], ◌∷◌, ◌++◌, length, Some, get_or, subst, append_assoc, length-append, arith}
use Rattle.std.specs.Prelude.{IsUtf8, encode_utf8, nat_le, ◌&&◌, ◌-◌}
use Rattle.std.specs.Char.{IsScalar}
use Rattle.std.proofs.lemmas.Bool.Decides.{nat_tests}
use Rattle.std.proofs.lemmas.Str.{IsUtf8-take, IsUtf8-drop, IsUtf8-append, IsUtf8-encode, IsCharBoundary-before_ascii, IsCharBoundary-after_ascii, encode_ascii}
use Rattle.std.proofs.Math.Utf8.{low_scalar}
use Rattle.std.proofs.Math.Seq.{take-append_seam, drop-append-add, get_or-append_seam}
use Rattle.json_value.specs.Grammar.{hex_value, SpellsUnit, unit_of, is_high, is_low, paired, SpellsChars, chars_end, chars_plain, chars_escape, chars_unit, chars_pair}
use Rattle.std.proofs.lemmas.Bool.{leb-true, and_parts}
use Rattle.json_value.proofs.Letters.{letter_kind}
use Rattle.owned_values.proofs.Tests.{chosen}

-- A UTF-8 text may be cut before and after an ASCII byte.
pub ascii_split : (p r : List ℕ) (x : ℕ) → x < 128 → IsUtf8 (p ++ (x ∷ r)) → IsUtf8 p × IsUtf8 r
ascii_split p r x small h =
    let here : get_or (p ++ (x ∷ r)) (length p) 0 < 128 = rw (get_or-append_seam p x r 0) small in
    let inside : length p < length (p ++ (x ∷ r)) = omega (arith, length-append p (x ∷ r)) in (
      subst (λ z. IsUtf8 z) (take-append_seam p (x ∷ r)) (IsUtf8-take (p ++ (x ∷ r)) (length p) h (IsCharBoundary-before_ascii (p ++ (x ∷ r)) (length p) inside here)),
      subst (λ z. IsUtf8 z) (drop-append-add p (x ∷ r) 1) (IsUtf8-drop (p ++ (x ∷ r)) (length p + 1) h (IsCharBoundary-after_ascii (p ++ (x ∷ r)) (length p) h inside here)),
    )

pub ascii_tail : (r : List ℕ) (x : ℕ) → x < 128 → IsUtf8 (x ∷ r) → IsUtf8 r
ascii_tail r x small h = (ascii_split [] r x small h).1

-- ---- escapes

-- what holds of each hexadecimal digit
record IsHex (b w : ℕ) : Type 0 where
  ascii : b < 128
  small : w < 16

-- a digit between two, less an offset
between : (b w lo hi off : ℕ) → (nat_le lo b && nat_le b hi) ≡ true → Some (b - off) ≡ Some w → hi < 128 → hi < off + 16 → IsHex b w
between b w lo hi off h e ascii small = grind (arith, and_parts, leb-true)

hex_kind : (b w : ℕ) → hex_value b ≡ Some w → IsHex b w
hex_kind b w h = grind (arith, chosen, between)

unit_scalar : (n : ℕ) → n < 65536 → is_high n ≡ false → is_low n ≡ false → IsScalar n
unit_scalar n small high low = grind (arith, nat_tests)

pair_scalar : (h l : ℕ) → is_high h ≡ true → is_low l ≡ true → IsScalar (paired h l)
pair_scalar h l high low = grind (arith, nat_tests)

-- After an escape of four digits a UTF-8 text goes on, and the number is small.
record AfterUnit (p s : List ℕ) (n : ℕ) : Type 0 where
  prefix : IsUtf8 p
  rest : IsUtf8 s
  small : n < 65536

unit_split : {u : List ℕ} {n : ℕ} → SpellsUnit u n → (p s : List ℕ) → IsUtf8 (p ++ (u ++ s)) → AfterUnit p s n
unit_split (unit_of a b c d {w} {x} {y} {z} ha hb hc hd) p s h =
    let one = hex_kind a w ha in
    let two = hex_kind b x hb in
    let three = hex_kind c y hc in
    let four = hex_kind d z hd in
    let start = ascii_split p (117 ∷ a ∷ b ∷ c ∷ d ∷ s) 92 (omega arith) h in
    let digits = ascii_tail (a ∷ b ∷ c ∷ d ∷ s) 117 (omega arith) start.1 in
    let after_one = ascii_tail (b ∷ c ∷ d ∷ s) a one.ascii digits in
    let after_two = ascii_tail (c ∷ d ∷ s) b two.ascii after_one in
    let after_three = ascii_tail (d ∷ s) c three.ascii after_two in
    record { prefix = start.0; rest = ascii_tail s d four.ascii after_three; small = omega (arith, one.small, two.small, three.small, four.small) }

-- ---- strings

pub ascii_one : (c : ℕ) → c < 128 → IsUtf8 (c ∷ [])
ascii_one c small = subst (λ z. IsUtf8 z) (encode_ascii c small) (IsUtf8-encode c (low_scalar c (omega arith)))

chars_utf8 : {s t : List ℕ} → SpellsChars s t → (p : List ℕ) → IsUtf8 (p ++ s) → IsUtf8 (p ++ t)
chars_utf8 chars_end p h = h
chars_utf8 (chars_plain b {s} {t} k more) p h = grind (arith, append_assoc, chars_utf8 more (p ++ b ∷ []))
chars_utf8 (chars_escape e c {s} {t} k more) p h =
    let kind = letter_kind e c k in
    let start = ascii_split p (e ∷ s) 92 (omega arith) h in
    IsUtf8-append p (c ∷ t) start.0 (IsUtf8-append (c ∷ []) t (ascii_one c kind.ascii) (chars_utf8 more [] (ascii_tail s e kind.letter_ascii start.1)))
chars_utf8 (chars_unit u n s t k high low more) p h =
    let cut = unit_split k p s h in
    IsUtf8-append p (encode_utf8 n ++ t) cut.prefix (IsUtf8-append (encode_utf8 n) t (IsUtf8-encode n (unit_scalar n cut.small high low)) (chars_utf8 more [] cut.rest))
chars_utf8 (chars_pair u v high low s t k l h1 h2 more) p h =
    let cut = unit_split k p (v ++ s) h in
    let following = unit_split l [] s cut.rest in
    IsUtf8-append p (encode_utf8 (paired high low) ++ t) cut.prefix
    (IsUtf8-append (encode_utf8 (paired high low)) t (IsUtf8-encode (paired high low) (pair_scalar high low h1 h2)) (chars_utf8 more [] following.rest))

pub text_utf8 : (s t : List ℕ) → SpellsChars s t → IsUtf8 s → IsUtf8 t
text_utf8 s t h u = chars_utf8 h [] u
