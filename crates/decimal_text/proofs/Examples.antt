-- Worked examples, computed from the definitions: texts at nine places under the limit 10^17, and units as texts.
use Rattle.std.proofs.Common.{◌≡◌, ℕ, ◌^◌, List, [], ◌∷◌, map, Result, Ok, Err, true, false, refl, pos, negsuc}
use Rattle.std.specs.Prelude.{ℤ, codes}
use Rattle.decimal_text.specs.declared.num_text.Scaled.{Scaled}
use Rattle.decimal_text.specs.declared.num_text.Range.{Range}
use Rattle.std.specs.Fmt.{digits}
use Rattle.decimal_text.specs.Scaling.{scaled_of, units_text}

abbrev scaled : List ℕ → Result Scaled Range
scaled t = scaled_of 9 (10 ^ 17) t

-- texts, and what they scale to
abbrev scaled_texts : List (List ℕ × Result Scaled Range)
scaled_texts =
    (codes "1e-9", Ok (record { value = pos 1; exact = true }))
    ∷ (codes "0.0000000005", Ok (record { value = pos 1; exact = false }))
    ∷ (codes "-0.0000000005", Ok (record { value = negsuc 0; exact = false }))
    ∷ (codes "0.0000000004", Ok (record { value = pos 0; exact = false }))
    ∷ (codes "-0", Ok (record { value = pos 0; exact = true }))
    ∷ (codes "100000000", Ok (record { value = pos (10 ^ 17); exact = true }))
    ∷ (codes "100000000.0000000004", Ok (record { value = pos (10 ^ 17); exact = false }))
    ∷ (codes "100000000.000000001", Err (record {}))
    ∷ (codes "01", Err (record {}))
    ∷ []

all_scaled : map (λ r. scaled r.0) scaled_texts ≡ map (λ r. r.1) scaled_texts
all_scaled = unfold scaled_of in refl

-- units, and their texts
abbrev unit_texts : List (ℤ × List ℕ)
unit_texts =
    (pos 0, codes "0")
    ∷ (pos 1500000000, codes "1.5")
    ∷ (negsuc 499999999, codes "-0.5")
    ∷ (pos 1, codes "0.000000001")
    ∷ (negsuc 99999999999999999, codes "-100000000")
    ∷ []

all_texts : map (λ r. units_text r.0 9) unit_texts ≡ map (λ r. r.1) unit_texts
all_texts = unfold units_text digits in refl
