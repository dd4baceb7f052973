-- Eight digits as a word, the first in its lowest byte: its highest bytes that are zero are the zeros at the end of the digits.
use Rattle.std.proofs.Common.{◌≡◌, ℕ, zero, suc, ◌+◌, ◌-◌, ◌*◌, ◌/◌, ◌%◌, ◌^◌, ◌<◌, ◌≤◌, List, [], ◌∷◌, ◌++◌, length, get_or, arith, refl, ap, sym, ◌∙◌, inl, inr, eq-zero-or-pos, ne_eqb}
use lib.Count.{count_leading_zeros}
use Rattle.std.specs.Int.{w64, from_le_bytes, to_le_bytes}
use Rattle.std.specs.List.{AllByRecursion}
use Rattle.std.proofs.lemmas.Bool.{cases_lt}
use Rattle.std.proofs.lemmas.Nat.{le_bytes_8, leading_length, pow-add}
use Rattle.std.proofs.Math.Nat.{pow-le-pow_right}
use Rattle.decimal_text.specs.Digits.{IsDigit}
use Rattle.decimal_text.specs.Units.{fixed, trimmed, before_trimmed}
use Rattle.json_writer.proofs.Fixed.{eight_by_two, length-fixed}

-- what is left of a word above the zeros of its digits
abbrev value : List ℕ → ℕ
value [] = 0
value (c ∷ cs) = (c - 48) + 256 * value cs

digits-push : (ds : List ℕ) (d : ℕ) → AllByRecursion IsDigit ds → IsDigit d → AllByRecursion IsDigit (ds ++ d ∷ [])
digits-push [] d h k = (k, tt)
digits-push (c ∷ cs) d h k = (h.0, digits-push cs d h.1 k)

digits-fixed : (p n : ℕ) → AllByRecursion IsDigit (fixed p n)
digits-fixed zero n = tt
digits-fixed (suc q) n = digits-push (fixed q (n / 10)) (48 + n % 10) (digits-fixed q (n / 10)) (omega arith, omega arith)

digits-fit : (ds : List ℕ) → AllByRecursion IsDigit ds → (i : ℕ) → get_or ds i 0 < 256
digits-fit [] h i = omega arith
digits-fit (c ∷ cs) h zero = let is = h.0 in omega arith
digits-fit (c ∷ cs) h (suc i) = digits-fit cs h.1 i

-- the word's bytes
pub bytes_of : (n word : ℕ) → word ≡ from_le_bytes w64 (fixed 8 n) → to_le_bytes w64 word ≡ fixed 8 n
bytes_of n word e = le_bytes_8 (fixed 8 n) word (length-fixed 8 n) (digits-fit (fixed 8 n) (digits-fixed 8 n)) e

up8 : (k : ℕ) → 2 ^ (8 * suc k) ≡ 2 ^ (8 * k) * 256
up8 k =
    let e : 8 * suc k ≡ 8 * k + 8 = omega arith in
    ap (λ m. 2 ^ m) e ∙ pow-add 2 (8 * k) 8

-- a value takes as many bytes as digits are left
record Takes (v many : ℕ) : Type 0 where
  below : v < 2 ^ (8 * many)
  above : (k : ℕ) → many ≡ suc k → 2 ^ (8 * k) ≤ v

takes-more : (c v : ℕ) (ts : List ℕ) → IsDigit c → Takes v (length ts) → Takes ((c - 48) + 256 * v) (length (before_trimmed c ts))
takes-more c v [] digit h =
    let small = h.below in
    elim (eq-zero-or-pos (c - 48)) [
      | inl z ↦
          let is : c ≡ 48 = omega arith in
          rw is (record { below = omega arith; above = λ k e. absurd (omega arith) })
      | inr g ↦
          rw (ne_eqb c 48 (λ e. omega arith)) (record { below = omega arith; above = λ k e. let none : k ≡ 0 = omega arith in rw none (omega arith) })
    ]
takes-more c v (t ∷ ts) digit h =
    let more = up8 (suc (length ts)) in
    let before = up8 (length ts) in
    let least = h.above (length ts) refl in
    let small = h.below in
    record { below = omega arith; above = λ k e. let is : k ≡ suc (length ts) = omega arith in rw is (omega arith) }

takes : (ds : List ℕ) → AllByRecursion IsDigit ds → Takes (value ds) (length (trimmed ds))
takes [] h = record { below = omega arith; above = λ k e. absurd (omega arith) }
takes (c ∷ cs) h = takes-more c (value cs) (trimmed cs) h.0 (takes cs h.1)

most : (v many m : ℕ) → v < 2 ^ (8 * many) → 2 ^ m ≤ 2 * v + 1 → m ≤ 8 * many
most v many m small wide =
    elim (cases_lt (8 * many) m) [
      | inl past ↦
          let more : 2 ^ (8 * many + 1) ≤ 2 ^ m = pow-le-pow_right (omega arith) (omega arith) in
          absurd (omega (arith, pow-add 2 (8 * many) 1))
      | inr within ↦ within
    ]

least : (v k m : ℕ) → 2 ^ (8 * k) ≤ v → v < 2 ^ m → 8 * k < m
least v k m low high =
    elim (cases_lt (8 * k) m) [
      | inl more ↦ more
      | inr within ↦
          let less : 2 ^ m ≤ 2 ^ (8 * k) = pow-le-pow_right (omega arith) within in
          absurd (omega arith)
    ]

-- how many of the highest bytes of such a value are zero
zero_bytes : (v many : ℕ) → v < 2 ^ 64 → Takes v many → count_leading_zeros 64 v / 8 + many ≡ 8
zero_bytes v zero fits h =
    let found = leading_length 64 v fits in
    omega (arith, found.1, most v 0 found.0 h.below found.3)
zero_bytes v (suc k) fits h =
    let found = leading_length 64 v fits in
    omega (arith, found.1, most v (suc k) found.0 h.below found.3, least v k found.0 (h.above k refl) found.2)

-- eight digits
abbrev eight : ℕ → ℕ → ℕ → ℕ → ℕ → ℕ → ℕ → ℕ → List ℕ
eight a b c d e f g h = (48 + a) ∷ (48 + b) ∷ (48 + c) ∷ (48 + d) ∷ (48 + e) ∷ (48 + f) ∷ (48 + g) ∷ (48 + h) ∷ []

word_joined : (a b c d e f g h p q r s : ℕ) → p ≡ (48 + a) + 256 * (48 + b) → q ≡ (48 + c) + 256 * (48 + d) → r ≡ (48 + e) + 256 * (48 + f) → s ≡ (48 + g) + 256 * (48 + h)
    → p + q * 65536 + r * 4294967296 + s * 281474976710656 ≡ from_le_bytes w64 (eight a b c d e f g h)
word_joined a b c d e f g h p q r s ip iq ir is = omega arith

word_least : (a b c d e f g h word : ℕ) → word ≡ from_le_bytes w64 (eight a b c d e f g h) → 3472328296227680304 ≤ word
word_least a b c d e f g h word is = omega arith

digit : (d : ℕ) → (48 + d) - 48 ≡ d
digit d = omega arith

value_is : (a b c d e f g h : ℕ) → value (eight a b c d e f g h) ≡ a + 256 * (b + 256 * (c + 256 * (d + 256 * (e + 256 * (f + 256 * (g + 256 * (h + 256 * 0)))))))
value_is a b c d e f g h = simp digit

word_value : (a b c d e f g h word : ℕ) → word ≡ from_le_bytes w64 (eight a b c d e f g h) → word - 3472328296227680304 ≡ value (eight a b c d e f g h)
word_value a b c d e f g h word is =
    let left : word - 3472328296227680304 ≡ a + 256 * (b + 256 * (c + 256 * (d + 256 * (e + 256 * (f + 256 * (g + 256 * (h + 256 * 0))))))) = omega (arith, is) in
    left ∙ sym (value_is a b c d e f g h)

value_fits : (a b c d e f g h : ℕ) → a < 10 → b < 10 → c < 10 → d < 10 → e < 10 → f < 10 → g < 10 → h < 10 → value (eight a b c d e f g h) < 2 ^ 64
value_fits a b c d e f g h ia ib ic id ie if ig ih = rw (value_is a b c d e f g h) (omega arith)

-- the word of eight digits is made of those of two
pub joined : (n p q r s : ℕ) → p ≡ (48 + n / 10000 % 10000 / 100 / 10 % 10) + 256 * (48 + n / 10000 % 10000 / 100 % 10)
    → q ≡ (48 + n / 10000 % 10000 % 100 / 10 % 10) + 256 * (48 + n / 10000 % 10000 % 100 % 10)
    → r ≡ (48 + n % 10000 / 100 / 10 % 10) + 256 * (48 + n % 10000 / 100 % 10)
    → s ≡ (48 + n % 10000 % 100 / 10 % 10) + 256 * (48 + n % 10000 % 100 % 10)
    → p + q * 65536 + r * 4294967296 + s * 281474976710656 ≡ from_le_bytes w64 (fixed 8 n)
joined n p q r s ip iq ir is =
    let one = n / 10000 % 10000 / 100 in
    let two = n / 10000 % 10000 % 100 in
    let three = n % 10000 / 100 in
    let four = n % 10000 % 100 in
    word_joined (one / 10 % 10) (one % 10) (two / 10 % 10) (two % 10) (three / 10 % 10) (three % 10) (four / 10 % 10) (four % 10) p q r s ip iq ir is
    ∙ ap (from_le_bytes w64) (sym (eight_by_two n))

-- the digits of n, the last first
abbrev back : ℕ → ℕ → ℕ
back zero n = n % 10
back (suc k) n = back k (n / 10)

pub enough : (n word : ℕ) → word ≡ from_le_bytes w64 (fixed 8 n) → 3472328296227680304 ≤ word
enough n word e = word_least (back 7 n) (back 6 n) (back 5 n) (back 4 n) (back 3 n) (back 2 n) (back 1 n) (back 0 n) word e

pub ending_zeros : (n word : ℕ) → word ≡ from_le_bytes w64 (fixed 8 n) → count_leading_zeros 64 (word - 3472328296227680304) / 8 + length (trimmed (fixed 8 n)) ≡ 8
ending_zeros n word e =
    let value_is : word - 3472328296227680304 ≡ value (fixed 8 n) = word_value (back 7 n) (back 6 n) (back 5 n) (back 4 n) (back 3 n) (back 2 n) (back 1 n) (back 0 n) word e in
    let fits : value (fixed 8 n) < 2 ^ 64 = value_fits (back 7 n) (back 6 n) (back 5 n) (back 4 n) (back 3 n) (back 2 n) (back 1 n) (back 0 n)
    (omega arith) (omega arith) (omega arith) (omega arith) (omega arith) (omega arith) (omega arith) (omega arith) in
    ap (λ v. count_leading_zeros 64 v / 8 + length (trimmed (fixed 8 n))) value_is ∙ zero_bytes (value (fixed 8 n)) (length (trimmed (fixed 8 n))) fits (takes (fixed 8 n) (digits-fixed 8 n))
