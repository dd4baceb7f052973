-- The threshold that stands for an area.
use Rattle.std.specs.Prelude.{ℕ, ◌*◌, List, Option, Some, None, Result, Ok, Err, if◌then◌else◌, ℤ, pos, negsuc}
use Rattle.decimal_text.specs.declared.num_text.Scaled.{Scaled}
use Rattle.decimal_text.specs.declared.num_text.Range.{Range}
use Rattle.decimal_text.specs.Scaling.{scaled_of}
use Rattle.geometry.specs.Units.{area_places, area_limit}

-- twice a whole number that isn't negative
abbrev pub twice : ℤ → Option ℕ
twice (pos n) = Some (2 * n)
twice (negsuc n) = None

-- twice a number that is taken at some places, where nothing was rounded
abbrev pub twice_exact : Result Scaled Range → Option ℕ
twice_exact (Ok s) = if s.exact then twice s.value else None
twice_exact (Err e) = None

-- Twice the area in square units, of the text of an area in the square of the input's unit; none where the text is no number,
-- and where the number is below zero, above 10^18 or no whole number of square units.
abbrev pub threshold_of : List ℕ → Option ℕ
threshold_of area = twice_exact (scaled_of area_places area_limit area)
