-- The marks among sixteen bytes, and the quotation marks before the first of them.
use Rattle.std.proofs.Common.{◌≡◌, ℕ, zero, suc, ◌+◌, ◌*◌, ◌/◌, ◌%◌, ◌^◌, ◌<◌, Bool, true, false, ◌||◌, cond, eqb, List, [], ◌∷◌, length, map, take, replicate, bit_or, refl, ap, ◌∙◌, arith}
use Rattle.std.specs.Simd.Lanes.{mask_l, top, zip2}
use Rattle.std.proofs.Math.Nat.{mod-one, zero-mod, pow-succ'}
use Rattle.std.proofs.lemmas.List.{length-map}
use Rattle.std.proofs.lemmas.Nat.{mod_low, mod_below, pow_pos, shr_split}
use Rattle.std.proofs.lemmas.Simd.{mask_l-mod, zip2_of_maps, zip2_splat}
use Rattle.json_value.proofs.Texts.{fused}
use Rattle.topojson_decoder.specs.Leaping.{is_mark}

-- a lane of all ones, or of none
abbrev lane : Bool → ℕ
lane b = cond b 255 0

either : (a b : Bool) → bit_or (lane a) (lane b) ≡ lane (a || b)
either false false = refl
either false true = refl
either true false = refl
either true true = refl

top_of : (a : Bool) → top 7 (lane a) ≡ a
top_of false = refl
top_of true = refl

is_marked : (x : ℕ) → top 7 (bit_or (bit_or (bit_or (lane (eqb x 91)) (lane (eqb x 123))) (bit_or (lane (eqb x 93)) (lane (eqb x 125)))) (lane (eqb x 92))) ≡ is_mark x
is_marked x = rw (either (eqb x 91) (eqb x 123), either (eqb x 93) (eqb x 125), either (eqb x 91 || eqb x 123) (eqb x 93 || eqb x 125), either ((eqb x 91 || eqb x 123) || (eqb x 93 || eqb x 125)) (eqb x 92)) (top_of _)

pub marks : (xs : List ℕ) → length xs ≡ 16
    → mask_l (map (top 7) (zip2 bit_or (zip2 bit_or (zip2 bit_or (zip2 (λ a b. lane (eqb a b)) xs (replicate 16 91)) (zip2 (λ a b. lane (eqb a b)) xs (replicate 16 123)))
    (zip2 bit_or (zip2 (λ a b. lane (eqb a b)) xs (replicate 16 93)) (zip2 (λ a b. lane (eqb a b)) xs (replicate 16 125)))) (zip2 (λ a b. lane (eqb a b)) xs (replicate 16 92)))) % 2 ^ 64 ≡ mask_l (map is_mark xs)
marks xs h =
    let same = λ (b : ℕ). zip2_splat (λ a b. lane (eqb a b)) xs 16 b h in
    let opening = zip2_of_maps bit_or _ _ xs (same 91) (same 123) in
    let closing = zip2_of_maps bit_or _ _ xs (same 93) (same 125) in
    let all = zip2_of_maps bit_or _ _ xs (zip2_of_maps bit_or _ _ xs opening closing) (same 92) in
    ap (λ z. mask_l (map (top 7) z) % 2 ^ 64) all
    ∙ ap (λ z. mask_l z % 2 ^ 64) (fused (top 7) _ is_mark is_marked xs)
    ∙ mask_l-mod (map is_mark xs) 64 (omega (arith, length-map xs is_mark, h))

is_either : (one other x : ℕ) → top 7 (bit_or (lane (eqb x one)) (lane (eqb x other))) ≡ (eqb x one || eqb x other)
is_either one other x = rw (either (eqb x one) (eqb x other)) (top_of _)

pub either_mark : (one other : ℕ) (xs : List ℕ) → length xs ≡ 64
    → mask_l (map (top 7) (zip2 bit_or (zip2 (λ a b. lane (eqb a b)) xs (replicate 64 one)) (zip2 (λ a b. lane (eqb a b)) xs (replicate 64 other)))) % 2 ^ 64 ≡ mask_l (map (λ x. eqb x one || eqb x other) xs)
either_mark one other xs h =
    ap (λ z. mask_l (map (top 7) z) % 2 ^ 64) (zip2_of_maps bit_or _ _ xs (zip2_splat (λ a b. lane (eqb a b)) xs 64 one h) (zip2_splat (λ a b. lane (eqb a b)) xs 64 other h))
    ∙ ap (λ z. mask_l z % 2 ^ 64) (fused (top 7) _ (λ x. eqb x one || eqb x other) (is_either one other) xs)
    ∙ mask_l-mod (map (λ x. eqb x one || eqb x other) xs) 64 (omega (arith, length-map xs (λ x. eqb x one || eqb x other), h))

pub low_bits : (b : Bool) (m k : ℕ) → (cond b 1 0 + 2 * m) % 2 ^ suc k ≡ cond b 1 0 + 2 * (m % 2 ^ k)
low_bits b m k = ap (λ z. z % 2 ^ suc k) whole ∙ mod_low (m / 2 ^ k) (suc k) (cond b 1 0 + 2 * (m % 2 ^ k)) small where
  twice : 2 ^ suc k ≡ 2 * 2 ^ k
  twice = pow-succ' 2 k

  few : (t : Bool) → cond t 1 0 < 2
  few true = omega arith
  few false = omega arith

  small : cond b 1 0 + 2 * (m % 2 ^ k) < 2 ^ suc k
  small = omega (arith, twice, few b, mod_below m (2 ^ k) (pow_pos k))

  whole : cond b 1 0 + 2 * m ≡ m / 2 ^ k * 2 ^ suc k + (cond b 1 0 + 2 * (m % 2 ^ k))
  whole = rw twice (omega (arith, shr_split m k))

-- the lowest bits of a mask are those of the first lanes
pub lowest : (k : ℕ) (ms : List Bool) → mask_l ms % 2 ^ k ≡ mask_l (take k ms)
lowest zero ms = mod-one (mask_l ms)
lowest (suc k) [] = zero-mod (2 ^ suc k)
lowest (suc k) (b ∷ ms) = low_bits b (mask_l ms) k ∙ ap (λ z. cond b 1 0 + 2 * z) (lowest k ms)
