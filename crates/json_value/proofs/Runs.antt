-- The escaped bytes of a text, run by run.
use Rattle.std.proofs.Common.{◌≡◌, ℕ, ◌⊎◌, true, false, inl, inr, List, [], ◌∷◌, ◌++◌, take, drop, one-add, refl, ap, append_assoc, arith}
use Rattle.std.specs.List.{prefix_len}
use Rattle.std.proofs.lemmas.Bool.Decides.{nat_tests}
use Rattle.json_value.specs.Grammar.{is_plain}
use Rattle.json_value.specs.Text.{escaped_byte, escaped}

pub plain_stays : (b : ℕ) → is_plain b ≡ true → escaped_byte b ≡ b ∷ []
plain_stays b h = unfold escaped_byte in grind (arith, nat_tests)

pub plain_decides : (b : ℕ) → (is_plain b ≡ true) ⊎ (is_plain b ≡ false)
plain_decides b = elim (is_plain b) as (λ x. (x ≡ true) ⊎ (x ≡ false)) [ true ↦ inl refl | false ↦ inr refl ]

-- the bytes in front that stand for themselves, and the rest
run_first : (bytes : List ℕ) → escaped bytes ≡ take (prefix_len is_plain bytes) bytes ++ escaped (drop (prefix_len is_plain bytes) bytes)
run_first [] = refl
run_first (b ∷ bytes) = elim (plain_decides b) [
  | inl p ↦ rw (p, one-add) (rw (plain_stays b p) (ap (λ z. b ∷ z) (run_first bytes)))
  | inr p ↦ rw p refl
]

-- what is left to write before a run, and after it
pub run_is : (rest run following closing : List ℕ) (n : ℕ) → n ≡ prefix_len is_plain rest → run ≡ take n rest → following ≡ drop n rest → escaped rest ++ closing ≡ run ++ (escaped following ++ closing)
run_is rest run following closing n many prefix back = grind (arith, run_first, append_assoc)

-- what is left to write before an escape, and after it
pub escape_is : (following after closing : List ℕ) (b : ℕ) → following ≡ b ∷ after → escaped following ++ closing ≡ escaped_byte b ++ (escaped after ++ closing)
escape_is following after closing b is = rw is (append_assoc (escaped_byte b) (escaped after) closing)
