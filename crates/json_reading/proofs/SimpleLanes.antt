-- The first bytes that stand for themselves in a string, looked at together.
use Rattle.std.proofs.Common.{◌≡◌, ℕ, ◌%◌, ◌^◌, Bool, true, false, not, ◌&&◌, eqb, List, length, map, replicate, bit_or, refl, ap, ◌∙◌, arith}
use Rattle.std.specs.Simd.Lanes.{mask_l, top, zip2}
use Rattle.std.proofs.Math.Dec.{ltb}
use Rattle.std.proofs.lemmas.List.{length-map}
use Rattle.std.proofs.lemmas.Simd.{mask_l-mod, zip2_of_maps, zip2_splat, zip2_splat_left}
use Rattle.json_value.proofs.PlainLanes.{above, lane}
use Rattle.json_value.proofs.Texts.{fused}
use Rattle.json_reading.specs.Strings.{is_simple}

any_of : (a b c d : Bool) → top 7 (bit_or (bit_or (lane a) (lane b)) (bit_or (lane c) (lane d))) ≡ not (not d && (not c && (not a && not b)))
any_of false false false false = refl
any_of false false false true = refl
any_of false false true false = refl
any_of false false true true = refl
any_of false true false false = refl
any_of false true false true = refl
any_of false true true false = refl
any_of false true true true = refl
any_of true false false false = refl
any_of true false false true = refl
any_of true false true false = refl
any_of true false true true = refl
any_of true true false false = refl
any_of true true false true = refl
any_of true true true false = refl
any_of true true true true = refl

is_marked : (x : ℕ) → top 7 (bit_or (bit_or (lane (eqb x 34)) (lane (eqb x 92))) (bit_or (lane (ltb x 32)) (lane (ltb 127 x)))) ≡ not (is_simple x)
is_marked x = any_of (eqb x 34) (eqb x 92) (ltb x 32) (ltb 127 x) ∙ rw (above 127 x, above x 32) refl

pub marks : (xs : List ℕ) → length xs ≡ 16
    → mask_l (map (top 7) (zip2 bit_or (zip2 bit_or (zip2 (λ a b. lane (eqb a b)) xs (replicate 16 34)) (zip2 (λ a b. lane (eqb a b)) xs (replicate 16 92)))
    (zip2 bit_or (zip2 (λ a b. lane (ltb a b)) xs (replicate 16 32)) (zip2 (λ a b. lane (ltb a b)) (replicate 16 127) xs)))) % 2 ^ 64 ≡ mask_l (map (λ x. not (is_simple x)) xs)
marks xs h =
    let quote = zip2_splat (λ a b. lane (eqb a b)) xs 16 34 h in
    let escape = zip2_splat (λ a b. lane (eqb a b)) xs 16 92 h in
    let below = zip2_splat (λ a b. lane (ltb a b)) xs 16 32 h in
    let over = zip2_splat_left (λ a b. lane (ltb a b)) 127 16 xs h in
    let all = zip2_of_maps bit_or _ _ xs (zip2_of_maps bit_or _ _ xs quote escape) (zip2_of_maps bit_or _ _ xs below over) in
    ap (λ z. mask_l (map (top 7) z) % 2 ^ 64) all
    ∙ ap (λ z. mask_l z % 2 ^ 64) (fused (top 7) _ (λ x. not (is_simple x)) is_marked xs)
    ∙ mask_l-mod (map (λ x. not (is_simple x)) xs) 64 (omega (arith, length-map xs (λ x. not (is_simple x)), h))
