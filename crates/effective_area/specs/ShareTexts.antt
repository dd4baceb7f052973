-- The share that a text writes.
use Rattle.std.specs.Prelude.{ℕ, ◌^◌, ◌==◌, nat_le, nat_lt, ◌&&◌, Bool, List, length, Option, Some, None, if◌then◌else◌}
use Rattle.std.specs.List.{before_first, after_first}
use Rattle.std.specs.Str.{all_ascii_digits}
use Rattle.decimal_text.specs.Digits.{digits_value}

-- the most that a share may be counted out of
abbrev pub share_limit : ℕ
share_limit = 10 ^ 9

-- the byte "/"
abbrev pub is_slash : ℕ → Bool
is_slash b = b == 47

-- the number that decimal digits write, one digit or more, zeros in front too; none for any other text
abbrev pub number_of : List ℕ → Option ℕ
number_of t = if nat_lt 0 (length t) && all_ascii_digits t then Some (digits_value t) else None

-- so many out of so many, which are one or more, and within the limit
abbrev pub share_out_of : Option ℕ → Option ℕ → Option (ℕ × ℕ)
share_out_of None q = None
share_out_of (Some p) None = None
share_out_of (Some p) (Some q) = if nat_lt 0 q && (nat_le q share_limit && nat_le p q) then Some (p, q) else None

-- The share of the text "P/Q", as P and Q: what stands before the first "/", out of what stands after it. None where there is no "/",
-- where one of the two is no number, where Q is zero or above 10^9, and where P is above Q.
abbrev pub share_of : List ℕ → Option (ℕ × ℕ)
share_of t = share_out_of (number_of (before_first is_slash t)) (number_of (after_first is_slash t))
