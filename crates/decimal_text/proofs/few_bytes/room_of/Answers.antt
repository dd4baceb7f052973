use Rattle.std.proofs.Common.{◌≡◌, ℕ, zero, suc, ◌≤◌, List, [], ◌∷◌, take, refl, ap, arith}
use Rattle.decimal_text.proofs.few_bytes.room_of.Goals as goal

prefix_again : (n m : ℕ) (bs : List ℕ) → n ≤ m → take n (take m bs) ≡ take n bs
prefix_again zero m bs h = refl
prefix_again (suc n) zero bs h = absurd (omega arith)
prefix_again (suc n) (suc m) [] h = refl
prefix_again (suc n) (suc m) (b ∷ bs) h = ap (λ xs. b ∷ xs) (prefix_again n m bs (omega arith))

pub returns-else-bytes-lt-ROOM : goal.returns-else-bytes-lt-ROOM
returns-else-bytes-lt-ROOM c n small within = grind (arith, prefix_again n 22 c.args.bytes.now small)
