-- Bytes that stand for themselves in a string, looked at together.
use Rattle.std.proofs.Common.{◌≡◌, ℕ, zero, suc, ◌+◌, ◌-◌, ◌≤◌, ◌%◌, ◌^◌, Bool, true, false, not, ◌&&◌, cond, eqb, leb, List, [], ◌∷◌, length, take, drop, get_or, map, replicate, bit_or, refl, sym, ap, ◌∙◌, arith}
use Rattle.std.specs.List.{prefix_len}
use Rattle.std.specs.Simd.Lanes.{mask_l, top, zip2}
use Rattle.std.proofs.Math.Dec.{ltb}
use Rattle.std.proofs.lemmas.List.{length-map, length-drop, length-take-le, take_rest}
use Rattle.std.proofs.lemmas.List.Sums.{prefix_len-le-length}
use Rattle.std.proofs.lemmas.Bool.Decides.{leb_tells}
use Rattle.std.proofs.lemmas.Simd.{mask_l-mod, zip2_of_maps, zip2_splat}
use Rattle.json_value.specs.Grammar.{is_plain}
use Rattle.json_value.proofs.Texts.{fused}

-- a lane of all ones, or of none
abbrev pub lane : Bool → ℕ
lane b = cond b 255 0

any_of : (a b c : Bool) → top 7 (bit_or (bit_or (lane a) (lane b)) (lane c)) ≡ not (not c && (not a && not b))
any_of false false false = refl
any_of false false true = refl
any_of false true false = refl
any_of false true true = refl
any_of true false false = refl
any_of true false true = refl
any_of true true false = refl
any_of true true true = refl

pub above : (a b : ℕ) → not (ltb a b) ≡ leb b a
above a b = grind (arith, leb_tells)

is_marked : (x : ℕ) → top 7 (bit_or (bit_or (lane (eqb x 34)) (lane (eqb x 92))) (lane (ltb x 32))) ≡ not (is_plain x)
is_marked x = any_of (eqb x 34) (eqb x 92) (ltb x 32) ∙ rw (above x 32) refl

pub marks : (xs : List ℕ) → length xs ≡ 16
    → mask_l (map (top 7) (zip2 bit_or (zip2 bit_or (zip2 (λ a b. lane (eqb a b)) xs (replicate 16 34)) (zip2 (λ a b. lane (eqb a b)) xs (replicate 16 92)))
    (zip2 (λ a b. lane (ltb a b)) xs (replicate 16 32)))) % 2 ^ 64 ≡ mask_l (map (λ x. not (is_plain x)) xs)
marks xs h =
    let quote = zip2_splat (λ a b. lane (eqb a b)) xs 16 34 h in
    let escape = zip2_splat (λ a b. lane (eqb a b)) xs 16 92 h in
    let below = zip2_splat (λ a b. lane (ltb a b)) xs 16 32 h in
    let all = zip2_of_maps bit_or _ _ xs (zip2_of_maps bit_or _ _ xs quote escape) below in
    ap (λ z. mask_l (map (top 7) z) % 2 ^ 64) all
    ∙ ap (λ z. mask_l z % 2 ^ 64) (fused (top 7) _ (λ x. not (is_plain x)) is_marked xs)
    ∙ mask_l-mod (map (λ x. not (is_plain x)) xs) 64 (omega (arith, length-map xs (λ x. not (is_plain x)), h))

counted : (b : Bool) (m n : ℕ) → m ≡ n → cond b (1 + m) 0 ≡ cond (not (not b)) (1 + n) 0
counted true m n h = ap (λ k. 1 + k) h
counted false m n h = refl

-- those in front that are so, and those in front that aren't otherwise
pub not_not : (p : ℕ → Bool) (xs : List ℕ) → prefix_len p xs ≡ prefix_len (λ x. not (not (p x))) xs
not_not p [] = refl
not_not p (x ∷ xs) = counted (p x) _ _ (not_not p xs)

-- ---- those that are passed over

one_more : (p : ℕ → Bool) (t : Bool) (b n : ℕ) (bs : List ℕ) → p b ≡ t → prefix_len p bs ≡ n + prefix_len p (drop n bs)
    → cond t (1 + prefix_len p bs) 0 ≡ cond t (1 + n) 0 + prefix_len p (drop (cond t (1 + n) 0) (b ∷ bs))
one_more p true b n bs h k = let e : 1 + n ≡ suc n = omega arith in rw e (omega (arith, k))
one_more p false b n bs h k = rw h refl

passed : (p : ℕ → Bool) (m : ℕ) (bs : List ℕ) → prefix_len p bs ≡ prefix_len p (take m bs) + prefix_len p (drop (prefix_len p (take m bs)) bs)
passed p zero bs = omega arith
passed p (suc m) [] = refl
passed p (suc m) (b ∷ bs) = one_more p (p b) b (prefix_len p (take m bs)) bs refl (passed p m bs)

module _ (bs rest : List ℕ) (n : ℕ) (enough : 16 ≤ length bs) (is : n ≡ prefix_len is_plain (take 16 bs)) where
  pub few : n ≤ length bs
  few = omega (arith, is, enough, length-take-le 16 bs enough, prefix_len-le-length is_plain (take 16 bs))

  pub lanes_passed : rest ≡ drop n bs → prefix_len is_plain bs + length rest ≡ prefix_len is_plain rest + length bs
  lanes_passed back = rw back (omega (arith, few, length-drop n bs, rw (sym is) at (passed is_plain 16 bs)))

-- ---- one byte more

module _ (bs rest found more : List ℕ) (b : ℕ)
    (before : prefix_len is_plain bs + length rest ≡ prefix_len is_plain rest + length bs)
    (then : prefix_len is_plain rest + length found ≡ prefix_len is_plain found + length rest)
    (split : found ≡ b ∷ more) where
  pub one_passed : is_plain b ≡ true → prefix_len is_plain bs + length more ≡ prefix_len is_plain more + length bs
  one_passed h =
      let front : prefix_len is_plain found ≡ 1 + prefix_len is_plain more = rw (split, h) refl in
      omega (arith, before, then, ap length split, front)

  pub stops : is_plain b ≡ false → length bs - length more - 1 ≡ prefix_len is_plain bs
  stops h =
      let front : prefix_len is_plain found ≡ 0 = rw (split, h) refl in
      omega (arith, before, then, ap length split, front)

-- the first byte, and those after it
pub split : (rest : List ℕ) → 1 ≤ length rest → rest ≡ get_or rest 0 0 ∷ take (length rest - 1) (drop 1 rest)
split [] h = absurd (omega (arith, h))
split (b ∷ bs) h = ap (λ z. b ∷ z) (sym (take_rest (b ∷ bs) 1))
