-- The letters after a reverse solidus.
use Rattle.std.proofs.Common.{◌≡◌, ℕ, ◌<◌, false, eqb, Some, arith}
use Rattle.std.proofs.lemmas.Bool.Decides.{nat_tests}
use Rattle.json_value.specs.Grammar.{unescape}

-- A letter and what it stands for are ASCII, and it is no "u".
pub record IsLetter (e c : ℕ) : Type 0 where
  pub letter_ascii : e < 128
  pub ascii : c < 128
  pub no_u : eqb e 117 ≡ false

pub letter_kind : (e c : ℕ) → unescape e ≡ Some c → IsLetter e c
letter_kind e c h = grind (arith, nat_tests)
