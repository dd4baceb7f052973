-- A product with an inverse tells how often a divisor goes into a number.
use Rattle.std.proofs.Common.{◌≡◌, ℕ, zero, suc, ◌+◌, ◌-◌, ◌*◌, ◌/◌, ◌%◌, ◌^◌, ◌<◌, ◌≤◌, arith}
use Rattle.std.proofs.Math.Nat.{mul-le-mul_left, lt_of_mul-lt-mul_left}
use Rattle.grid_snap.specs.Inverses.{IsInverse, IsNearQuotient}

-- ---- of any whole that the inverse stands for

-- a product is enough for the quotient
product_enough : (n m d q whole : ℕ) → q * d ≤ n → whole ≤ m * d → q * whole ≤ n * m
product_enough n m d q whole below inverse =
    let e : q * whole ≤ q * (m * d) = mul-le-mul_left q inverse in
    let f : m * (q * d) ≤ m * n = mul-le-mul_left m below in
    omega (arith, e, f)

-- and not for two more, d times as much
product_short_by : (n m d q whole : ℕ) → n < whole → n < q * d + d → m * d < whole + d → d * (n * m) < d * ((q + 2) * whole)
product_short_by n m d q whole few above inverse =
    let e : n * (m * d + 1) ≤ n * (whole + d) = mul-le-mul_left n (omega (arith, inverse)) in
    let f : whole * (n + 1) ≤ whole * (q * d + d) = mul-le-mul_left whole (omega (arith, above)) in
    let g : d * (n + 1) ≤ d * whole = mul-le-mul_left d (omega (arith, few)) in
    omega (arith, e, f, g, few)

product_short : (n m d q whole : ℕ) → n < whole → n < q * d + d → m * d < whole + d → n * m < (q + 2) * whole
product_short n m d q whole few above inverse = lt_of_mul-lt-mul_left d (product_short_by n m d q whole few above inverse)

-- of a multiple it is the quotient and less than one more
multiple_enough : (m d k whole : ℕ) → whole ≤ m * d → k * whole ≤ (k * d) * m
multiple_enough m d k whole inverse = let e : k * whole ≤ k * (m * d) = mul-le-mul_left k inverse in omega (arith, e)

multiple_short : (m d k whole : ℕ) → k * d < whole → m * d < whole + d → (k * d) * m < k * whole + whole
multiple_short m d k whole few inverse =
    let e : k * (m * d + 1) ≤ k * (whole + d) = mul-le-mul_left k (omega (arith, inverse)) in
    omega (arith, e, few)

-- ---- of 2^64

over_whole : (p q : ℕ) → q * 2 ^ 64 ≤ p → p < (q + 2) * 2 ^ 64 → (q ≤ p / 2 ^ 64) × (p / 2 ^ 64 ≤ q + 1)
over_whole p q h k = (omega (arith, h, k), omega (arith, h, k))

exactly_whole : (p q : ℕ) → q * 2 ^ 64 ≤ p → p < q * 2 ^ 64 + 2 ^ 64 → p / 2 ^ 64 ≡ q
exactly_whole p q h k = omega (arith, h, k)

divisor_some : (d m : ℕ) → IsInverse d m → 1 ≤ d
divisor_some zero m i = absurd (omega (arith, i.enough))
divisor_some (suc d) m i = omega arith

-- what is left of a number
pub record IsLeft (n d q : ℕ) : Type 0 where
  pub below : q * d ≤ n
  pub above : n < q * d + d

pub left_of : (n d : ℕ) → 1 ≤ d → IsLeft n d (n / d)
left_of n d h = record { below = omega (arith, h); above = omega (arith, h) }

pub near_of : (n d m : ℕ) → n < 2 ^ 64 → IsInverse d m → IsNearQuotient n d (n * m / 2 ^ 64)
near_of n d m few i =
    let l : IsLeft n d (n / d) = left_of n d (divisor_some d m i) in
    let e = over_whole (n * m) (n / d) (product_enough n m d (n / d) (2 ^ 64) l.below i.enough) (product_short n m d (n / d) (2 ^ 64) few l.above i.least) in
    record { enough = e.0; most = e.1 }

pub exact_of : (n d m k : ℕ) → n < 2 ^ 64 → IsInverse d m → n ≡ k * d → n * m / 2 ^ 64 ≡ k
exact_of n d m k few i e =
    let f : k * d < 2 ^ 64 = omega (arith, few, e) in
    rw e (exactly_whole (k * d * m) k (multiple_enough m d k (2 ^ 64) i.enough) (multiple_short m d k (2 ^ 64) f i.least))

-- ---- whether it is the quotient

-- of one that is one more the rest wraps round
wraps : (n d q : ℕ) → n < 2 ^ 64 → d ≤ 2 ^ 63 → IsLeft n d q → d ≤ (n + (2 ^ 64 - (q * d + d) % 2 ^ 64)) % 2 ^ 64
wraps n d q few h l = omega (arith, few, h, l.below, l.above)

one_more : (q d near : ℕ) → near ≡ q + 1 → near * d ≡ q * d + d
one_more q d near e = rw e (omega arith)

not_more : (n d q near : ℕ) → n < 2 ^ 64 → d ≤ 2 ^ 63 → IsLeft n d q → (n + (2 ^ 64 - (near * d) % 2 ^ 64)) % 2 ^ 64 < d → near ≡ q + 1 → ⊥
not_more n d q near few h l test more =
    let e : (n + (2 ^ 64 - (q * d + d) % 2 ^ 64)) % 2 ^ 64 < d = rw (one_more q d near more) at test in
    omega (arith, wraps n d q few h l, e)

pub right_if_less : (n d m near : ℕ) → n < 2 ^ 64 → d ≤ 2 ^ 63 → IsInverse d m → IsNearQuotient n d near → (n + (2 ^ 64 - (near * d) % 2 ^ 64)) % 2 ^ 64 < d → near ≡ n / d
right_if_less n d m near few h i k test =
    let l : IsLeft n d (n / d) = left_of n d (divisor_some d m i) in
    let e : (near ≡ n / d + 1) → ⊥ = not_more n d (n / d) near few h l test in
    omega (arith, k.enough, k.most, e)
