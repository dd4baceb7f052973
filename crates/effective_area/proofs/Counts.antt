-- How counts rise, one call after another.
use Rattle.std.proofs.Common.{◌≡◌, ℕ, ◌+◌, ◌-◌, ◌*◌, ◌/◌, ◌<◌, ◌≤◌, ◌⊎◌, inl, inr, ap, min, arith}
use Rattle.std.proofs.Math.Nat.{mul-add, mul_comm, mul-le-mul, mul-le-mul_left}
use Rattle.std.proofs.lemmas.Bool.{cases_lt}
use Rattle.effective_area.specs.Counts.{AreasRose, RoseAtMost, RoseBy}
use Rattle.effective_area.specs.declared.steps.Steps.{Steps}

-- how counts of areas and of pushes rise, each by its own bound
pub by_none : (m n : ℕ) (r : Steps) → RoseBy m n r r
by_none m n r = record { areas_stay = omega arith; areas_most = omega arith; pushes_stay = omega arith; pushes_most = omega arith }

pub by_then : (m n k l p q : ℕ) (r s t : Steps) → RoseBy m n r s → RoseBy k l s t → m + k ≤ p → n + l ≤ q → RoseBy p q r t
by_then m n k l p q r s t h j a b = grind arith

pub by_more : (m n p q : ℕ) (r s : Steps) → RoseBy m n r s → m ≤ p → n ≤ q → RoseBy p q r s
by_more m n p q r s h a b = by_then m n 0 0 p q r s s h (by_none 0 0 s) (omega arith) (omega arith)

pub by_most : (m n k : ℕ) (r s : Steps) → RoseBy m n r s → m ≤ k → n ≤ k → RoseAtMost k r s
by_most m n k r s h a b = grind arith

-- a turn: two areas and two pushes at most
pub turn_counted : (left : ℕ) (a b c d e : Steps) → RoseBy 1 0 a b → RoseBy 1 0 b c → RoseBy 0 1 c d → RoseBy 0 1 d e → 0 < left → RoseAtMost (2 * min left 1) a e
turn_counted left a b c d e h j k l p = grind (arith, by_most, by_then)

-- a look at a line of which m positions are left, and all later ones where fewer are
fewer_areas : (m l : ℕ) → l ≤ m - 1 → m - 2 + (l - 2) * (l - 1) / 2 ≤ (m - 2) * (m - 1) / 2
fewer_areas m l h = on (cases_lt 2 m)
  where
    later : (l - 2) * (l - 1) ≤ (m - 3) * (m - 2)
    later = mul-le-mul (omega (arith, h)) (omega (arith, h))

    on : (2 < m) ⊎ (m ≤ 2) → m - 2 + (l - 2) * (l - 1) / 2 ≤ (m - 2) * (m - 1) / 2
    on (inl k) =
        let e : (m - 2) * (m - 1) ≡ (m - 2) * (m - 3 + 2) = ap (λ n. (m - 2) * n) (omega (arith, k)) in
        omega (arith, later, e, mul-add (m - 2) (m - 3) 2, mul_comm (m - 2) (m - 3))
    on (inr k) = let none : (m - 3) * (m - 2) ≤ 0 = mul-le-mul {n₂ = 0} {m₂ = 0} (omega (arith, k)) (omega (arith, k)) in omega (arith, later, none, k)

pub look_counted : (m l : ℕ) (r s t : Steps) → RoseBy (m - 2) 0 r s → RoseBy ((l - 2) * (l - 1) / 2) 0 s t → l ≤ m - 1 → RoseBy ((m - 2) * (m - 1) / 2) 0 r t
look_counted m l r s t h j k = by_then (m - 2) 0 ((l - 2) * (l - 1) / 2) 0 _ 0 r s t h j (fewer_areas m l k) (omega arith)

-- up to five corners
pub few_areas : (n : ℕ) → n ≤ 7 → (n - 2) * (n - 1) / 2 ≤ 3 * (n - 2)
few_areas n h = let e : (n - 2) * (n - 1) ≤ (n - 2) * 6 = mul-le-mul_left (n - 2) (omega (arith, h)) in omega (arith, e)

-- the first look computes all areas
pub look_computed : (n m : ℕ) (r s t : Steps) → AreasRose (min (n - m) (n - 2)) r s → AreasRose (m - 2) s t → m ≤ n → AreasRose (n - 2) r t
look_computed n m r s t h j a = omega (arith, h, j, a)

pub rose_computed : (m n : ℕ) (r s : Steps) → AreasRose n r s → m ≤ n → AreasRose m r s
rose_computed m n r s h a = omega (arith, h, a)
