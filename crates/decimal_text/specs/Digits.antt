-- Runs of decimal digits, and the numbers that they write.
use Rattle.std.specs.Prelude.{ℕ, ◌+◌, ◌-◌, ◌*◌, ◌≤◌, List, [], ◌∷◌, take, drop}
use Rattle.std.specs.List.{prefix_len}
use Rattle.decimal_text.specs.Grammar.{is_digit}

-- the byte is a digit: 48 is "0", 57 is "9"
abbrev pub IsDigit : ℕ → Type 0
IsDigit b = (48 ≤ b) × (b ≤ 57)

-- the number that the digits write where they follow those of n
abbrev pub digits_value_after : ℕ → List ℕ → ℕ
digits_value_after n [] = n
digits_value_after n (d ∷ ds) = digits_value_after (10 * n + (d - 48)) ds

-- the number that the digits write
abbrev pub digits_value : List ℕ → ℕ
digits_value ds = digits_value_after 0 ds

-- the digits that a text begins with
abbrev pub leading_digits : List ℕ → List ℕ
leading_digits t = take (prefix_len is_digit t) t

-- what follows the digits that a text begins with
abbrev pub after_digits : List ℕ → List ℕ
after_digits t = drop (prefix_len is_digit t) t
