-- The number that digits write.
use Rattle.std.proofs.Common.{◌≡◌, ℕ, ◌+◌, ◌-◌, ◌*◌, ◌^◌, ◌<◌, ◌≤◌, suc, List, [], ◌∷◌, ◌++◌, length, All, refl, ap, ◌∙◌, arith, get_or, drop, add-one}
use Rattle.std.proofs.lemmas.List.Elements.{All-head, All-tail, All-cons, All-append}
use Rattle.std.proofs.lemmas.Bool.{cases_lt}
use Rattle.std.proofs.lemmas.List.{at_drop_more}
use Rattle.std.proofs.Math.Nat.{pow-suc, one-le-pow, mul-le-mul_left, pow-le-pow_right}
use Rattle.decimal_text.proofs.DigitRuns.{digit_range}
use Rattle.std.proofs.lemmas.List.{get_or-take}
use Rattle.std.proofs.lemmas.List.Sums.{prefix_len_passes}
use Rattle.std.proofs.lemmas.List.Folds.{length-prefix_len}
use Rattle.decimal_text.specs.Digits.{leading_digits}
use Rattle.decimal_text.specs.Digits.{IsDigit, digits_value_after, digits_value}

pub digits_value_after-ge : (n : ℕ) (ds : List ℕ) → n ≤ digits_value_after n ds
digits_value_after-ge n [] = omega arith
digits_value_after-ge n (c ∷ cs) = omega (arith, digits_value_after-ge (10 * n + (c - 48)) cs)

pub digits_value_after-append : (n : ℕ) (xs ys : List ℕ) → digits_value_after n (xs ++ ys) ≡ digits_value_after (digits_value_after n xs) ys
digits_value_after-append n [] ys = refl
digits_value_after-append n (x ∷ xs) ys = digits_value_after-append (10 * n + (x - 48)) xs ys

-- digits after those of n
pub digits_value_after-split : (n : ℕ) (ds : List ℕ) → digits_value_after n ds ≡ n * 10 ^ length ds + digits_value ds
digits_value_after-split n [] = omega arith
digits_value_after-split n (c ∷ cs) =
    let d : ℕ = c - 48 in
    let p : ℕ = 10 ^ length cs in
    let one = digits_value_after-split (10 * n + d) cs in
    let two = digits_value_after-split (10 * 0 + d) cs in
    let e : 10 ^ suc (length cs) ≡ p * 10 = pow-suc 10 (length cs) in
    rw e (omega (arith, one, two))

pub digits_value-lt : (ds : List ℕ) → All IsDigit ds → digits_value ds < 10 ^ length ds
digits_value-lt [] h = omega arith
digits_value-lt (c ∷ cs) h =
    let d : ℕ = c - 48 in
    let p : ℕ = 10 ^ length cs in
    let small : d ≤ 9 = omega (arith, All-head IsDigit c cs h) in
    let two = digits_value_after-split (10 * 0 + d) cs in
    let e : 10 ^ suc (length cs) ≡ p * 10 = pow-suc 10 (length cs) in
    let tail : digits_value cs < p = digits_value-lt cs (All-tail IsDigit c cs h) in
    let scaled : d * p ≤ 9 * p = omega (arith, mul-le-mul_left p small) in
    rw e (omega (arith, two))

-- a first digit of five or more makes a half or more
pub digits_value-half : (c : ℕ) (cs : List ℕ) → All IsDigit (c ∷ cs) → 53 ≤ c → 10 ^ suc (length cs) ≤ 2 * digits_value (c ∷ cs)
digits_value-half c cs h five = grind (arith, digits_value_after-split, pow-suc, mul-le-mul_left)

pub digits_value-less : (c : ℕ) (cs : List ℕ) → All IsDigit (c ∷ cs) → c < 53 → 2 * digits_value (c ∷ cs) < 10 ^ suc (length cs)
digits_value-less c cs h five =
    let d : ℕ = c - 48 in
    let p : ℕ = 10 ^ length cs in
    let two = digits_value_after-split (10 * 0 + d) cs in
    let e : 10 ^ suc (length cs) ≡ p * 10 = pow-suc 10 (length cs) in
    let small : d ≤ 4 = omega arith in
    let scaled : p * d ≤ p * 4 = mul-le-mul_left p small in
    let tail : digits_value cs < p = digits_value-lt cs (All-tail IsDigit c cs h) in
    rw e (omega (arith, two))

-- digits that are all zeros write zero, and no others do
pub digits_value-zeros : (ds : List ℕ) → All (λ c. c ≡ 48) ds → digits_value ds ≡ 0
digits_value-zeros [] h = refl
digits_value-zeros (c ∷ cs) h = search (All-head, digits_value_after-split, All-tail, digits_value-zeros cs (All-tail (λ c. c ≡ 48) c cs h), arith)

pub zeros-value : (ds : List ℕ) → All IsDigit ds → digits_value ds ≡ 0 → All (λ c. c ≡ 48) ds
zeros-value [] h e = λ k d l. absurd (omega arith)
zeros-value (c ∷ cs) h e =
    let two = digits_value_after-split (10 * 0 + (c - 48)) cs in
    let digit : (48 ≤ c) × (c ≤ 57) = All-head IsDigit c cs h in
    let p : ℕ = 10 ^ length cs in
    let pos : 1 ≤ p = one-le-pow (length cs) 10 (omega arith) in
    let d : ℕ = c - 48 in
    let scaled : d * 1 ≤ d * p = mul-le-mul_left d pos in
    All-cons (λ c. c ≡ 48) c cs (omega (arith, two)) (zeros-value cs (All-tail IsDigit c cs h) (omega (arith, two)))

-- the walk passed the limit
pub past_limit : (limit n start i : ℕ) (ds : List ℕ) → i < length ds → digits_value_after n (drop i ds) ≡ digits_value_after start ds
    → limit < n * 10 + (get_or ds i 0 - 48) → limit < digits_value_after start ds
past_limit limit n start i ds within rest past =
    grind (arith, at_drop_more (digits_value_after n) ds i 0 within, digits_value_after-ge (10 * n + (get_or ds i 0 - 48)) (drop (i + 1) ds))

-- the zeros passed the limit
pub past_zeros : (limit start v done zeros : ℕ) → v ≡ start * 10 ^ done → limit < v * 10 → done < zeros → limit < start * 10 ^ zeros
past_zeros limit start v done zeros e past more =
    let step : 10 ^ suc done ≡ 10 ^ done * 10 = pow-suc 10 done in
    let up : 10 ^ suc done ≤ 10 ^ zeros = pow-le-pow_right (omega arith) more in
    let scaled : start * 10 ^ suc done ≤ start * 10 ^ zeros = mul-le-mul_left start up in
    let again : start * 10 ^ suc done ≡ start * (10 ^ done * 10) = ap (λ p. start * p) step in
    omega arith

pub more_zeros : (start v done : ℕ) → v ≡ start * 10 ^ done → v * 10 ≡ start * 10 ^ (done + 1)
more_zeros start v done e = let step : 10 ^ suc done ≡ 10 ^ done * 10 = pow-suc 10 done in rw (add-one, step) (omega arith)

-- kept digits, and then cut ones
pub digits_value-cut : (kept cut : List ℕ) → digits_value (kept ++ cut) ≡ digits_value kept * 10 ^ length cut + digits_value cut
digits_value-cut kept cut = digits_value_after-append 0 kept cut ∙ digits_value_after-split (digits_value kept) cut

-- a prefix of the kept digits passes the limit
pub cut_past : (kept cut : List ℕ) (limit : ℕ) → limit < digits_value kept → (limit + 1) * 10 ^ length cut ≤ digits_value (kept ++ cut)
cut_past kept cut limit h = grind (arith, mul-le-mul_left, digits_value-cut)

-- the first digit decides a half
pub half_by_first : (ds : List ℕ) → All IsDigit ds → 0 < length ds
    → (53 ≤ get_or ds 0 0 → 10 ^ length ds ≤ 2 * digits_value ds) × (10 ^ length ds ≤ 2 * digits_value ds → 53 ≤ get_or ds 0 0)
half_by_first [] h some = absurd (omega arith)
half_by_first (c ∷ cs) h some = grind (arith, digits_value-half, digits_value-less, cases_lt)

-- two parts write zero exactly where both are zeros
pub zero_parts : (xs ys : List ℕ) → All (λ c. c ≡ 48) xs → All (λ c. c ≡ 48) ys → digits_value (xs ++ ys) ≡ 0
zero_parts xs ys h k = digits_value-zeros (xs ++ ys) (All-append (λ c. c ≡ 48) xs ys h k)

pub zero_prefix : (xs ys : List ℕ) → All IsDigit xs → digits_value (xs ++ ys) ≡ 0 → digits_value xs ≡ 0
zero_prefix xs ys h e = grind (arith, one-le-pow, mul-le-mul_left, digits_value-cut)

pub zero_back : (xs ys : List ℕ) → digits_value (xs ++ ys) ≡ 0 → digits_value ys ≡ 0
zero_back xs ys e = omega (arith, digits_value-cut xs ys)

-- the digits at the front are digits
pub leading_digits-all : (bs : List ℕ) → All IsDigit (leading_digits bs)
leading_digits-all bs = grind (arith, length-prefix_len, prefix_len_passes, get_or-take, digit_range)
