-- The table of two digits.
use Rattle.std.proofs.Common.{◌≡◌, ℕ, zero, suc, ◌+◌, ◌-◌, ◌*◌, ◌/◌, ◌%◌, ◌<◌, Bool, true, ◌&&◌, T, eqb, get_or, inl, inr, arith, eq-zero-or-pos, eqb→eq}
use lib.Ieee.Fits.{and_l, and_r}
use Rattle.json_writer.specs.declared.room_writer.TheConstants.{PAIRS}

-- the table has the digits of each number below n
abbrev has_pairs : ℕ → Bool
has_pairs zero = true
has_pairs (suc n) = has_pairs n && (eqb (get_or PAIRS (n * 2) 0) (48 + n / 10 % 10) && eqb (get_or PAIRS (n * 2 + 1) 0) (48 + n % 10))

found : (n pair : ℕ) → T (has_pairs n) → pair < n → (get_or PAIRS (pair * 2) 0 ≡ 48 + pair / 10 % 10) × (get_or PAIRS (pair * 2 + 1) 0 ≡ 48 + pair % 10)
found zero pair t h = absurd (omega arith)
found (suc n) pair t h =
    let here = and_r (has_pairs n) _ t in
    elim (eq-zero-or-pos (n - pair)) [
      | inl z ↦ let e : pair ≡ n = omega arith in rw e (eqb→eq _ _ (and_l _ _ here), eqb→eq _ _ (and_r _ _ here))
      | inr g ↦ found n pair (and_l (has_pairs n) _ t) (omega arith)
    ]

pub pair_at : (pair : ℕ) → pair < 100 → (get_or PAIRS (pair * 2) 0 ≡ 48 + pair / 10 % 10) × (get_or PAIRS (pair * 2 + 1) 0 ≡ 48 + pair % 10)
pair_at pair h = found 100 pair tt h
