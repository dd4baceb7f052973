-- Products in place of divisions.
use Rattle.std.specs.Prelude.{ℕ, ◌+◌, ◌*◌, ◌/◌, ◌^◌, ◌≤◌, ◌<◌}

-- 2^64 over the divisor, rounded up
pub record IsInverse (divisor inverse : ℕ) : Type 0 where
  pub enough : 2 ^ 64 ≤ inverse * divisor
  pub least : inverse * divisor < 2 ^ 64 + divisor

-- it is how often the divisor goes into the number, or one more
pub record IsNearQuotient (n divisor near : ℕ) : Type 0 where
  pub enough : n / divisor ≤ near
  pub most : near ≤ n / divisor + 1
