-- The numbers that are reported of a build.
use Rattle.std.specs.Prelude.{ℕ, ◌+◌, ◌*◌, ◌/◌}

-- so many of so many in thousandths, rounded down
abbrev pub thousandths : ℕ → ℕ → ℕ
thousandths part rest = part * 1000 / (part + rest)
