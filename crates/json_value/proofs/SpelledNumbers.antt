-- The number texts of a value that is spelled are numbers.
use Rattle.std.proofs.Common.{ℕ, List, inl, inr}
use Rattle.json_value.specs.declared.json.Json.{Json}
use Rattle.json_value.specs.Grammar.{Spells, Reads}
use Rattle.json_value.specs.Numbers.{HasNumbers}
use Rattle.json_value.proofs.Inherits.{numbers_inherit}
use Rattle.json_value.proofs.Spelled.{spelled_has}

pub spelled_numbers : {d : ℕ} {t : List ℕ} {v : Json} → Spells d t v → HasNumbers v
spelled_numbers s = spelled_has (λ t. Unit {0}) (λ p r x h f. (tt, tt)) numbers_inherit (λ t n. n) (λ s t h f. tt) s tt

pub reads_numbers : (d : ℕ) (b : List ℕ) (v : Json) → Reads d b v → HasNumbers v
reads_numbers d b v (inl r) = spelled_numbers r.4
reads_numbers d b v (inr r) = let s = r.2 in spelled_numbers s.4
