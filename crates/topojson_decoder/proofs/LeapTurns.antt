-- Which of 64 bytes stand outside strings, by the quotation marks among them.
use Rattle.std.proofs.Common.{◌≡◌, ℕ, ◌+◌, ◌*◌, ◌%◌, ◌^◌, ◌<◌, Bool, true, false, not, if◌then◌else◌, ◌&&◌, cond, List, [], ◌∷◌, length, bit_and, bit_xor, refl, sym, ap, ◌∙◌, arith}
use Rattle.std.specs.Simd.Lanes.{mask_l}
use lib.Bits.{xor_assoc, xor_self, xor_zero_r}
use Rattle.std.proofs.Math.Nat.{mod-one, mul_assoc, mul-mod_left}
use Rattle.std.proofs.lemmas.Nat.{and_block, mul-mod_first, pow-add, pow_pos, xor_block, xor_comm, xor_mod}
use Rattle.topojson_decoder.proofs.LeapMasks.{low_bits}
use Rattle.topojson_decoder.specs.Leaping.{outsides}

abbrev shifted : ℕ → ℕ → ℕ
shifted k x = x * 2 ^ k % 2 ^ 64

-- ---- bit by bit

pub doubled : (a : ℕ) (c : Bool) → cond c 1 0 + 2 * a ≡ a * 2 ^ 1 + cond c 1 0
doubled a c = omega arith

pub bit_below : (c : Bool) → cond c 1 0 < 2 ^ 1
bit_below true = omega arith
bit_below false = omega arith

xor_bit : (m o : Bool) → bit_xor (cond m 1 0) (cond o 1 0) ≡ cond (if m then not o else o) 1 0
xor_bit true true = refl
xor_bit true false = refl
xor_bit false true = refl
xor_bit false false = refl

and_bit : (m o : Bool) → bit_and (cond m 1 0) (cond o 1 0) ≡ cond (m && o) 1 0
and_bit true true = refl
and_bit true false = refl
and_bit false true = refl
and_bit false false = refl

xor_bits : (m o : Bool) (a b : ℕ) → bit_xor (cond m 1 0 + 2 * a) (cond o 1 0 + 2 * b) ≡ cond (if m then not o else o) 1 0 + 2 * bit_xor a b
xor_bits m o a b =
    ap (λ z. bit_xor z (cond o 1 0 + 2 * b)) (doubled a m) ∙ ap (bit_xor (a * 2 ^ 1 + cond m 1 0)) (doubled b o)
    ∙ xor_block 1 a b (cond m 1 0) (cond o 1 0) (bit_below m) (bit_below o)
    ∙ ap (λ z. bit_xor a b * 2 ^ 1 + z) (xor_bit m o)
    ∙ sym (doubled (bit_xor a b) (if m then not o else o))

pub and_bits : (m o : Bool) (a b : ℕ) → bit_and (cond m 1 0 + 2 * a) (cond o 1 0 + 2 * b) ≡ cond (m && o) 1 0 + 2 * bit_and a b
and_bits m o a b =
    ap (λ z. bit_and z (cond o 1 0 + 2 * b)) (doubled a m) ∙ ap (bit_and (a * 2 ^ 1 + cond m 1 0)) (doubled b o)
    ∙ and_block 1 a b (cond m 1 0) (cond o 1 0) (bit_below m) (bit_below o)
    ∙ ap (λ z. bit_and a b * 2 ^ 1 + z) (and_bit m o)
    ∙ sym (doubled (bit_and a b) (m && o))

-- ---- each mark turns what follows

turns : (ms : List Bool) (o : Bool) → bit_xor (mask_l ms) ((cond o 1 0 + 2 * mask_l (outsides o ms)) % 2 ^ length ms) ≡ mask_l (outsides o ms)
turns [] o = ap (bit_xor 0) (mod-one (cond o 1 0 + 2 * 0))
turns (m ∷ ms) o =
    ap (bit_xor (cond m 1 0 + 2 * mask_l ms)) (low_bits o (mask_l (outsides o (m ∷ ms))) (length ms))
    ∙ xor_bits m o (mask_l ms) (mask_l (outsides o (m ∷ ms)) % 2 ^ length ms)
    ∙ ap (λ z. cond (if m then not o else o) 1 0 + 2 * z) (turns ms (if m then not o else o))

of_zero : (t : ℕ) → bit_xor 0 t ≡ t
of_zero t = xor_comm 0 t ∙ xor_zero_r t

lowest_apart : (o : Bool) (t : ℕ) → cond o 1 0 + 2 * t ≡ bit_xor (cond o 1 0) (cond false 1 0 + 2 * t)
lowest_apart true t = sym (xor_bits true false 0 t ∙ ap (λ z. 1 + 2 * z) (of_zero t))
lowest_apart false t = sym (xor_bits false false 0 t ∙ ap (λ z. 0 + 2 * z) (of_zero t))

moved : (a s y : ℕ) → bit_xor a s ≡ y → a ≡ bit_xor y s
moved a s y h = sym (xor_zero_r a) ∙ ap (bit_xor a) (sym (xor_self s)) ∙ sym (xor_assoc a s s) ∙ ap (λ z. bit_xor z s) h

-- with the first turned or not
first_turned : (ms : List Bool) (o : Bool) → length ms ≡ 64 → bit_xor (mask_l ms) (cond o 1 0) ≡ bit_xor (mask_l (outsides o ms)) (shifted 1 (mask_l (outsides o ms)))
first_turned ms o long = moved (bit_xor (mask_l ms) (cond o 1 0)) s y with_both ∙ ap (bit_xor y) (sym shift) where
  y : ℕ
  y = mask_l (outsides o ms)

  s : ℕ
  s = cond false 1 0 + 2 * (y % 2 ^ 63)

  shift : shifted 1 y ≡ s
  shift = ap (λ z. z % 2 ^ 64) (omega arith) ∙ low_bits false y 63

  split : (cond o 1 0 + 2 * y) % 2 ^ 64 ≡ bit_xor (cond o 1 0) s
  split = low_bits o y 63 ∙ lowest_apart o (y % 2 ^ 63)

  with_both : bit_xor (bit_xor (mask_l ms) (cond o 1 0)) s ≡ y
  with_both = xor_assoc (mask_l ms) (cond o 1 0) s ∙ ap (bit_xor (mask_l ms)) (sym split) ∙ ap (λ n. bit_xor (mask_l ms) ((cond o 1 0 + 2 * y) % 2 ^ n)) (sym long) ∙ turns ms o

-- ---- by twice as far

shift_xor : (k a b : ℕ) → shifted k (bit_xor a b) ≡ bit_xor (shifted k a) (shifted k b)
shift_xor k a b = ap (λ z. z % 2 ^ 64) blocks ∙ xor_mod (a * 2 ^ k) (b * 2 ^ k) 64 where
  none : (n : ℕ) → n + 0 ≡ n
  none n = omega arith

  blocks : bit_xor a b * 2 ^ k ≡ bit_xor (a * 2 ^ k) (b * 2 ^ k)
  blocks = sym (none _) ∙ sym (xor_block k a b 0 0 (pow_pos k) (pow_pos k)) ∙ ap (λ z. bit_xor z (b * 2 ^ k + 0)) (none _) ∙ ap (bit_xor (a * 2 ^ k)) (none _)

shift_twice : (k x : ℕ) → shifted k (shifted k x) ≡ shifted (k + k) x
shift_twice k x = mul-mod_first (x * 2 ^ k) (2 ^ k) (2 ^ 64) ∙ ap (λ z. z % 2 ^ 64) (mul_assoc x (2 ^ k) (2 ^ k) ∙ ap (λ z. x * z) (sym (pow-add 2 k k)))

cancelled : (y s t : ℕ) → bit_xor (bit_xor y s) (bit_xor s t) ≡ bit_xor y t
cancelled y s t = xor_assoc y s (bit_xor s t) ∙ ap (bit_xor y) (sym (xor_assoc s s t) ∙ ap (λ z. bit_xor z t) (xor_self s) ∙ of_zero t)

twice_as_far : (k x y : ℕ) → x ≡ bit_xor y (shifted k y) → bit_xor x (shifted k x) ≡ bit_xor y (shifted (k + k) y)
twice_as_far k x y h = rw h (ap (bit_xor (bit_xor y (shifted k y))) (shift_xor k y (shifted k y) ∙ ap (bit_xor (shifted k y)) (shift_twice k y)) ∙ cancelled y (shifted k y) (shifted (k + k) y))

module _ (ms : List Bool) (o : Bool) (long : length ms ≡ 64) (a b c d e f g : ℕ) (first : a ≡ bit_xor (mask_l ms) (cond o 1 0)) (one : b ≡ bit_xor a (shifted 1 a)) (two : c ≡ bit_xor b (shifted 2 b)) (four : d ≡ bit_xor c (shifted 4 c)) (eight : e ≡ bit_xor d (shifted 8 d)) (sixteen : f ≡ bit_xor e (shifted 16 e)) (more : g ≡ bit_xor f (shifted 32 f)) where
  pub turned_all : g ≡ mask_l (outsides o ms)
  turned_all =
      let y = mask_l (outsides o ms) in
      let at_one = first ∙ first_turned ms o long in
      let at_two = one ∙ twice_as_far 1 a y at_one in
      let at_four = two ∙ twice_as_far 2 b y at_two in
      let at_eight = four ∙ twice_as_far 4 c y at_four in
      let at_sixteen = eight ∙ twice_as_far 8 d y at_eight in
      let far = sixteen ∙ twice_as_far 16 e y at_sixteen in
      more ∙ twice_as_far 32 f y far ∙ ap (bit_xor y) (mul-mod_left y (2 ^ 64)) ∙ xor_zero_r y
