-- Rounding a fraction.
use Rattle.std.proofs.Common.{◌≡◌, ℕ, ◌+◌, ◌-◌, ◌*◌, ◌/◌, ◌^◌, ◌<◌, ◌≤◌, sym, ap, ◌∙◌, arith, ⊎_elim, IsTrue, ◌↔◌, Result, Ok, Err, subst, true, false, ◌≢◌}
use Rattle.decimal_text.specs.Rounding.{IsRounded, IsRoundedTo, Rounds}
use Rattle.decimal_text.specs.declared.num_text.Range.{Range}
use Rattle.decimal_text.specs.declared.rounding.Magnitude.{Magnitude}
use Rattle.std.proofs.Math.Nat.{mul-le-mul_left, one-le-pow, pow-suc, pow-le-pow_right, zero-mul}
use Rattle.std.proofs.lemmas.Nat.{pow-add}
use Rattle.std.proofs.lemmas.Bool.{cases_lt, false≢true}

-- a whole number
pub IsRounded-whole : (den u : ℕ) → 0 < den → IsRounded (u * den) den u
IsRounded-whole den u h = record { low = omega arith; high = omega arith }

-- a whole number and a half or more
pub IsRounded-up : (den q r : ℕ) → den ≤ 2 * r → r < den → IsRounded (q * den + r) den (q + 1)
IsRounded-up den q r h s = record { low = omega arith; high = omega arith }

-- both numbers of the fraction by one factor
pub IsRounded-scaled : (num den u k : ℕ) → 0 < k → IsRounded num den u → IsRounded (num * k) (den * k) u
IsRounded-scaled num den u k pos r =
    let low : k * (2 * (u * den)) ≤ k * (2 * num + den) = mul-le-mul_left k r.low in
    let high : k * (2 * num + 1) ≤ k * (2 * (u * den) + den) = mul-le-mul_left k (omega arith) in
    record { low = omega arith; high = omega arith }

pub IsRounded-unscaled : (num den u k : ℕ) → 0 < k → IsRounded (num * k) (den * k) u → IsRounded num den u
IsRounded-unscaled num den u k pos r = record {
  low = ⊎_elim (λ h. let bad : k * (2 * num + den + 1) ≤ k * (2 * (u * den)) = mul-le-mul_left k (omega arith) in absurd (omega arith))
      (λ h. h) (cases_lt (2 * num + den) (2 * (u * den)));
  high = ⊎_elim (λ h. h) (λ h. let bad : k * (2 * (u * den) + den) ≤ k * (2 * num) = mul-le-mul_left k h in absurd (omega arith))
      (cases_lt (2 * num) (2 * (u * den) + den));
}

-- one past the limit or more rounds past the limit
pub IsRounded-above : (num den u limit : ℕ) → (limit + 1) * den ≤ num → IsRounded num den u → limit < u
IsRounded-above num den u limit h r = grind (arith, mul-le-mul_left, cases_lt)

pub IsRounded-unique : (num den u v : ℕ) → IsRounded num den u → IsRounded num den v → u ≡ v
IsRounded-unique num den u v r s = grind (arith, cases_lt)

-- q whole and less than a half
pub IsRoundedTo-down : (num den q r limit : ℕ) (m : Magnitude) → num ≡ q * den + r → 2 * r < den
    → m.value ≡ q → (IsTrue m.exact ↔ (r ≡ 0)) → q ≤ limit → IsRoundedTo num den limit m
IsRoundedTo-down num den q r limit m sum less is exact small = grind arith

-- q whole and a half or more
pub IsRoundedTo-up : (num den q r limit : ℕ) (m : Magnitude) → num ≡ q * den + r → den ≤ 2 * r → r < den
    → m.value ≡ q + 1 → (IsTrue m.exact ↔ (r ≡ 0)) → q + 1 ≤ limit → IsRoundedTo num den limit m
IsRoundedTo-up num den q r limit m sum more less is exact small = grind (arith, IsRounded-up den q r more less)

-- rounded up past the limit
pub up_past : (num den q r limit : ℕ) → num ≡ q * den + r → den ≤ 2 * r → r < den → q ≡ limit → (u : ℕ) → IsRounded num den u → limit < u
up_past num den q r limit sum more less at u rounds = grind arith

cancel : (a b k : ℕ) → 0 < k → a * k ≡ b * k → a ≡ b
cancel a b k pos e = grind (arith, mul-le-mul_left, cases_lt)

-- both numbers of the fraction by one factor
pub Rounds-scaled : (num den limit k : ℕ) (r : Result Magnitude Range) → 0 < k → Rounds num den limit r → Rounds (num * k) (den * k) limit r
Rounds-scaled num den limit k (Ok m) pos h = record {
  rounded = IsRounded-scaled num den m.value k pos h.rounded;
  exact = (
    λ t. let e : m.value * den ≡ num = h.exact.0 t in let f : m.value * den * k ≡ num * k = ap (λ x. x * k) e in omega arith,
    λ e. h.exact.1 (cancel (m.value * den) num k pos (omega arith)),
  );
  within = h.within;
}
Rounds-scaled num den limit k (Err e) pos h = λ u s. h u (IsRounded-unscaled num den u k pos s)

pub Rounds-longer : (v up down limit : ℕ) (r : Result Magnitude Range) → down ≤ up
    → Rounds (v * 10 ^ (up - down)) 1 limit r → Rounds (v * 10 ^ up) (10 ^ down) limit r
Rounds-longer v up down limit r le h =
    let pos : 0 < 10 ^ down = one-le-pow down 10 (omega arith) in
    let sum : up ≡ (up - down) + down = omega arith in
    let split : 10 ^ up ≡ 10 ^ (up - down) * 10 ^ down = ap (λ n. 10 ^ n) sum ∙ pow-add 10 (up - down) down in
    let apart : v * (10 ^ (up - down) * 10 ^ down) ≡ (v * 10 ^ (up - down)) * 10 ^ down = omega arith in
    let num : v * 10 ^ up ≡ (v * 10 ^ (up - down)) * 10 ^ down = ap (λ p. v * p) split ∙ apart in
    let den : 10 ^ down ≡ 1 * 10 ^ down = omega arith in
    rw num (subst (λ d. Rounds ((v * 10 ^ (up - down)) * 10 ^ down) d limit r) (sym den) (Rounds-scaled (v * 10 ^ (up - down)) 1 limit (10 ^ down) r pos h))

pub Rounds-shorter : (v up down limit : ℕ) (r : Result Magnitude Range) → up ≤ down
    → Rounds v (10 ^ (down - up)) limit r → Rounds (v * 10 ^ up) (10 ^ down) limit r
Rounds-shorter v up down limit r le h = grind (arith, one-le-pow, pow-add, Rounds-scaled)

-- a whole number
pub IsRoundedTo-whole : (num limit : ℕ) (m : Magnitude) → m.value ≡ num → m.exact ≡ true → num ≤ limit → IsRoundedTo num 1 limit m
IsRoundedTo-whole num limit m is exact small = grind arith

-- zeros after a number past the limit
pub long_past : (v limit zeros : ℕ) → limit < v → (limit + 1) * 1 ≤ v * 10 ^ zeros
long_past v limit zeros h = grind (arith, one-le-pow, mul-le-mul_left)

-- all digits and more are cut
pub IsRoundedTo-cut : (v len cut limit : ℕ) (m : Magnitude) → v < 10 ^ len → len < cut
    → m.value ≡ 0 → (IsTrue m.exact ↔ (v ≡ 0)) → IsRoundedTo v (10 ^ cut) limit m
IsRoundedTo-cut v len cut limit m small more is exact = grind (arith, pow-suc 10 len, pow-le-pow_right, IsRoundedTo-down)

-- zero, at any exponent
pub IsRoundedTo-zero : (v a b limit : ℕ) (m : Magnitude) → v ≡ 0 → m.value ≡ 0 → m.exact ≡ true → IsRoundedTo (v * 10 ^ a) (10 ^ b) limit m
IsRoundedTo-zero v a b limit m none is exact = grind (arith, one-le-pow, zero-mul)

-- a number far below one half
pub IsRoundedTo-tiny : (v len places cut limit : ℕ) (m : Magnitude) → v < 10 ^ len → len + places < cut
    → m.value ≡ 0 → m.exact ≡ false → v ≢ 0 → IsRoundedTo (v * 10 ^ places) (10 ^ cut) limit m
IsRoundedTo-tiny v len places cut limit m small more is exact some =
    let p : ℕ = 10 ^ places in
    let pos : 1 ≤ p = one-le-pow places 10 (omega arith) in
    let scaled : p * (v + 1) ≤ p * 10 ^ len = mul-le-mul_left p (omega arith) in
    let split : 10 ^ (len + places) ≡ 10 ^ len * p = pow-add 10 len places in
    let below : v * p < 10 ^ (len + places) = omega arith in
    let kept : v * 1 ≤ v * p = mul-le-mul_left v pos in
    IsRoundedTo-cut (v * p) (len + places) cut limit m below more is
    ((λ t. absurd (false≢true (sym exact ∙ t))), (λ e. absurd (some (omega arith))))

-- a number far above the limit
pub far_past : (v following up limit : ℕ) → v ≢ 0 → limit ≤ 10 ^ 37 → following + 38 ≤ up → (limit + 1) * 10 ^ following ≤ v * 10 ^ up
far_past v following up limit some small far = grind (arith, pow-add 10 following 38, pow-le-pow_right, cases_lt v 1, mul-le-mul_left)

-- there is a rounded number
pub IsRounded-some : (num den : ℕ) → 0 < den → IsRounded num den ((2 * num + den) / (2 * den))
IsRounded-some num den h = grind arith
