-- The weights of a line's positions.
use Rattle.std.specs.Prelude.{ℕ, List, Option, None, Some, length, map}
use Rattle.std.specs.List.{range_with_len}
use Rattle.geometry.specs.Points.{Point}
use Rattle.elimination_meaning.specs.Weights.{weight}
use Rattle.effective_area.specs.declared.weight.Weight.{Weight}
use Rattle.effective_area.specs.declared.weight.Weight.TheVariants.{End, Area}

-- an end has no area
abbrev pub reported : Option ℕ → Weight
reported None = End
reported (Some area) = Area area

-- the weight of each position of a line, in order
unfoldable pub weights_of : List Point → List Weight
weights_of ps = map (λ i. reported (weight ps i)) (range_with_len 0 (length ps))
