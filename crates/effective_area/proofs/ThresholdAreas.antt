-- The threshold of an area's text, from the number that the text spells.
use Rattle.std.proofs.Common.{◌≡◌, ◌∙◌, ℕ, zero, suc, ◌*◌, Bool, true, false, List, Option, Some, None, Result, Ok, Err, refl, sym, ap, arith}
use Rattle.std.proofs.lemmas.Option.{none-some}
use Rattle.decimal_text.specs.declared.num_text.Scaled.{Scaled}
use Rattle.decimal_text.specs.declared.num_text.Range.{Range}
use Rattle.decimal_text.specs.Grammar.{IsNumber}
use Rattle.decimal_text.specs.Parts.{Parts, parts_of, SpellsNumber}
use Rattle.decimal_text.specs.Rounding.{IsScaled, ScalesTo, signed, rounded_of}
use Rattle.decimal_text.specs.Scaling.{scaled_of, scaled_parts, numerator, denominator}
use Rattle.decimal_text.proofs.Nearest.{rounded_of-whole}
use Rattle.decimal_text.proofs.ScaledNumber.{denominator-positive, scaled_of-read, scaled_of-nearest}
use Rattle.decimal_text.proofs.ReadsParts.{parts-read}
use Rattle.decimal_text.proofs.SpellsParts.{number-from_parts}
use Rattle.geometry.specs.Units.{area_places, area_limit}
use Rattle.effective_area.specs.Thresholds.{twice, twice_exact, threshold_of}
use Rattle.effective_area.specs.ThresholdLaws.{IsThreshold, ThresholdIsTwiceTheArea}

-- a text that is no number has no threshold
pub no_threshold : (t : List ℕ) → (IsNumber t → ⊥) → threshold_of t ≡ None
unfolding scaled_of
no_threshold t h = go (parts_of t) refl
  where
    go : (o : Option Parts) → parts_of t ≡ o → twice_exact (scaled_parts area_places area_limit o) ≡ None
    go None e = refl
    go (Some n) e = absurd (h (number-from_parts t t n refl e))

-- ---- a magnitude with a sign, twice

twice_signed : (negative : Bool) (many : ℕ) → (negative ≡ true → many ≡ 0) → twice (signed negative many) ≡ Some (2 * many)
twice_signed false many h = refl
twice_signed true many h = rw (h refl) refl

signed_from_twice : (negative : Bool) (many threshold : ℕ) → twice (signed negative many) ≡ Some threshold
    → (negative ≡ true → many ≡ 0) × (threshold ≡ 2 * many)
signed_from_twice false many threshold e = grind arith
signed_from_twice true zero threshold e = grind arith
signed_from_twice true (suc many) threshold e = absurd (none-some threshold e)

-- ---- the law

module _ (area : Parts) (threshold : ℕ) where
  from_scaled : (s : Scaled) → IsScaled area.negative (numerator area area_places) (denominator area) area_limit s
      → twice_exact (Ok s) ≡ Some threshold → IsThreshold area threshold
  from_scaled s h e = go s.exact refl
    where
      go : (b : Bool) → s.exact ≡ b → IsThreshold area threshold
      go false is = absurd (none-some threshold (rw is at e))
      go true is =
          let found = signed_from_twice area.negative h.magnitude threshold (ap twice (sym h.value) ∙ rw is at e) in
          record { many = h.magnitude; exactly = h.exact.0 is; positive = found.0; most = h.within; twice = found.1 }

  from_result : (r : Result Scaled Range) → ScalesTo area.negative (numerator area area_places) (denominator area) area_limit r
      → twice_exact r ≡ Some threshold → IsThreshold area threshold
  from_result (Ok s) h e = from_scaled s h e
  from_result (Err f) h e = absurd (none-some threshold e)

  to_threshold : (t : List ℕ) → SpellsNumber t area → IsThreshold area threshold → threshold_of t ≡ Some threshold
  to_threshold t spells h =
      let read = scaled_of-read area_places area_limit t area (parts-read t area spells) in
      let whole = rounded_of-whole area.negative (denominator area) h.many area_limit (denominator-positive area) h.most in
      let same = read ∙ (ap (λ n. rounded_of area.negative n (denominator area) area_limit) (sym h.exactly) ∙ whole) in
      ap twice_exact same ∙ (twice_signed area.negative h.many h.positive ∙ ap Some (sym h.twice))

pub twice_the_area : ThresholdIsTwiceTheArea
twice_the_area t area threshold spells = (
  from_result area threshold _ (scaled_of-nearest area_places area_limit t area spells),
  to_threshold area threshold t spells,
)
