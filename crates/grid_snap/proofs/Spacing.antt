-- The arithmetic of equal steps: rounding up, and the nearest multiple.
use Rattle.std.proofs.Common.{◌≡◌, ℕ, ◌+◌, ◌-◌, ◌*◌, ◌/◌, ◌<◌, ◌≤◌, max, arith}
use Rattle.std.proofs.Math.Nat.{mul-le-mul_left}
use Rattle.decimal_text.specs.Rounding.{nearest, IsRounded}
use Rattle.decimal_text.proofs.Nearest.{nearest-only}
use Rattle.decimal_text.proofs.RoundedFractions.{IsRounded-whole, IsRounded-some}
use Rattle.grid_snap.specs.Axes.{rounded_up}

-- ---- rounding up

divides : (x m : ℕ) → 0 < m → (m * (x / m) ≤ x) × (x < m * (x / m) + m)
divides x m h = (omega arith, omega arith)

up_reaches : (d m : ℕ) → 1 ≤ m → d ≤ m * rounded_up d m
up_reaches d m h = let e = divides (d + (m - 1)) m (omega arith) in omega (arith, e.0, e.1)

up_near : (d m : ℕ) → 1 ≤ m → m * rounded_up d m ≤ d + (m - 1)
up_near d m h = let e = divides (d + (m - 1)) m (omega arith) in omega (arith, e.0, e.1)

at_least_one : (k : ℕ) → k ≤ max k 1
at_least_one k = omega arith

pub step_some : (k : ℕ) → 1 ≤ max k 1
step_some k = omega arith

-- the step serves
pub step_reaches : (d m : ℕ) → 1 ≤ m → d ≤ m * max (rounded_up d m) 1
step_reaches d m h = grind (arith, up_reaches, mul-le-mul_left, at_least_one)

near_one : (d m k : ℕ) → 1 ≤ m → m * k ≤ d + (m - 1) → m * max k 1 ≤ d + m
near_one d m k h e = grind arith

-- it reaches no farther than it has to, by less than a step for each coordinate
pub step_near : (d m : ℕ) → 1 ≤ m → m * max (rounded_up d m) 1 ≤ d + m
step_near d m h = near_one d m (rounded_up d m) h (up_near d m h)

-- no lesser step serves
least_one : (d m h k : ℕ) → 1 ≤ m → 1 ≤ h → d ≤ m * h → m * k ≤ d + (m - 1) → max k 1 ≤ h
least_one d m h k some one serves near = grind (arith, mul-le-mul_left)

pub step_least : (d m h : ℕ) → 1 ≤ m → 1 ≤ h → d ≤ m * h → max (rounded_up d m) 1 ≤ h
step_least d m h some one serves = least_one d m h (rounded_up d m) some one serves (up_near d m some)

-- ---- the nearest multiple

pub nearest_whole : (k s : ℕ) → 1 ≤ s → nearest (k * s) s ≡ k
nearest_whole k s h = nearest-only (k * s) s k (omega arith) (IsRounded-whole s k (omega arith))

rounded_within : (d s m u : ℕ) → 1 ≤ s → d ≤ m * s → IsRounded d s u → u ≤ m
rounded_within d s m u h near r = grind (arith, mul-le-mul_left)

pub nearest_within : (d s m : ℕ) → 1 ≤ s → d ≤ m * s → nearest d s ≤ m
nearest_within d s m h near = rounded_within d s m (nearest d s) h near (IsRounded-some d s (omega arith))

pub scaled_within : (k m s : ℕ) → k ≤ m → k * s ≤ m * s
scaled_within k m s h = let e : s * k ≤ s * m = mul-le-mul_left s h in omega (arith, e)
