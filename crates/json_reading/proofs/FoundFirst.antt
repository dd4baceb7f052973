-- The first byte that is looked for.
use Rattle.std.proofs.Common.{◌≡◌, ℕ, zero, suc, ◌<◌, ◌≤◌, false, eqb, List, [], ◌∷◌, length, drop, get_or, refl, arith}
use Rattle.json_reading.specs.Finding.{after_first}

-- others are passed over
pub others_passed : (byte n : ℕ) (bs : List ℕ) → n ≤ length bs → ((k : ℕ) → k < n → eqb (get_or bs k 0) byte ≡ false) → after_first byte bs ≡ after_first byte (drop n bs)
others_passed byte zero bs le other = refl
others_passed byte (suc n) [] le other = absurd (omega arith)
others_passed byte (suc n) (b ∷ bs) le other = rw (other 0 (omega arith)) (others_passed byte n bs (omega arith) (λ k lt. other (suc k) (omega arith)))
