-- Runs of digits by the grammar, and where a reading of them stops.
use Rattle.std.proofs.Common.{◌≡◌, ℕ, ◌≤◌, ◌++◌, true, false, List, [], ◌∷◌, length, take, drop, All, refl, ap, ◌∙◌, arith}
use Rattle.std.proofs.Math.Seq.{take-append_seam, drop-append_seam}
use Rattle.std.proofs.lemmas.Bool.Decides.{nat_tests}
use Rattle.std.proofs.lemmas.List.Elements.{All-head, All-tail}
use Rattle.std.specs.List.{prefix_len}
use Rattle.decimal_text.specs.Grammar.{is_digit, AllDigits}
use Rattle.decimal_text.specs.Digits.{IsDigit, leading_digits, after_digits}

pub digit_true : (c : ℕ) → 48 ≤ c → c ≤ 57 → is_digit c ≡ true
digit_true c low high = grind (arith, nat_tests)

pub digit_range : (c : ℕ) → is_digit c ≡ true → (48 ≤ c) × (c ≤ 57)
digit_range c h = grind (arith, nat_tests)

pub AllDigits-from_All : (ds : List ℕ) → All IsDigit ds → AllDigits ds
AllDigits-from_All [] h = tt
AllDigits-from_All (c ∷ cs) h = grind (arith, All-head, digit_true, All-tail, AllDigits-from_All cs (All-tail IsDigit c cs h))

-- the text begins with no digit
abbrev pub StopsDigits : List ℕ → Type 0
StopsDigits [] = Unit {0}
StopsDigits (c ∷ cs) = is_digit c ≡ false

pub prefix_len-run : (ds rest : List ℕ) → AllDigits ds → StopsDigits rest → prefix_len is_digit (ds ++ rest) ≡ length ds
prefix_len-run [] [] h stop = refl
prefix_len-run [] (r ∷ rs) h stop = rw stop refl
prefix_len-run (c ∷ cs) rest h stop = grind (arith, prefix_len-run cs rest h.1 stop)

pub leading_digits-run : (ds rest : List ℕ) → AllDigits ds → StopsDigits rest → leading_digits (ds ++ rest) ≡ ds
leading_digits-run ds rest h stop = ap (λ n. take n (ds ++ rest)) (prefix_len-run ds rest h stop) ∙ take-append_seam ds rest

pub after_digits-run : (ds rest : List ℕ) → AllDigits ds → StopsDigits rest → after_digits (ds ++ rest) ≡ rest
after_digits-run ds rest h stop = ap (λ n. drop n (ds ++ rest)) (prefix_len-run ds rest h stop) ∙ drop-append_seam ds rest
