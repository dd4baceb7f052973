-- The law that ties the threshold to the number that a text spells.
use Rattle.std.specs.Prelude.{◌≡◌, ℕ, ◌*◌, ◌≤◌, ◌↔◌, true, List, Some}
use Rattle.decimal_text.specs.Parts.{Parts, SpellsNumber}
use Rattle.decimal_text.specs.Scaling.{numerator, denominator}
use Rattle.geometry.specs.Units.{area_places, area_limit}
use Rattle.effective_area.specs.Thresholds.{threshold_of}

-- the number with these parts is so many square units, isn't negative and is within the limit, and the threshold is twice as many
pub record IsThreshold (area : Parts) (threshold : ℕ) : Type 0 where
  pub many : ℕ
  pub exactly : many * denominator area ≡ numerator area area_places
  pub positive : area.negative ≡ true → many ≡ 0
  pub most : many ≤ area_limit
  pub twice : threshold ≡ 2 * many

-- a text that spells a number has such a threshold, and no other
abbrev pub ThresholdIsTwiceTheArea : Type 0
ThresholdIsTwiceTheArea =
    (t : List ℕ) (area : Parts) (threshold : ℕ) → SpellsNumber t area
    → (threshold_of t ≡ Some threshold) ↔ IsThreshold area threshold
