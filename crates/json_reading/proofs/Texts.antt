-- Whole texts, as they are checked.
use Rattle.std.proofs.Common.{◌≡◌, ℕ, Bool, eqb, List, [], ◌∷◌, length, Some, None, refl, if◌then◌else◌, arith}
use Rattle.json_value.specs.declared.json.Json.{Json}
use Rattle.json_value.specs.Reading.{skip, ended, document, value_at}
use Rattle.json_reading.proofs.Steps.{not_equal}

ended_by : (v : Json) (rest : List ℕ) (is_empty : Bool) → is_empty ≡ eqb (length rest) 0 → ended v rest ≡ (if is_empty then Some v else None)
unfolding ended
ended_by v [] is_empty e = rw e refl
ended_by v (b ∷ bs) is_empty e = rw (e, not_equal (length (b ∷ bs)) 0 (omega arith)) refl

pub document_by : (fits : List ℕ → Bool) (d : ℕ) (bs : List ℕ) (v : Json) (after rest : List ℕ) (is_empty : Bool) → value_at fits d (skip bs) ≡ Some (v, after) → rest ≡ skip after → is_empty ≡ eqb (length rest) 0
    → document fits d bs ≡ (if is_empty then Some v else None)
unfolding document
document_by fits d bs v after rest is_empty found following e = rw (found, ← following) (ended_by v rest is_empty e)
