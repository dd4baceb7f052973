-- The texts of lines by those of their arcs.
use Rattle.std.specs.Prelude.{ℕ, ◌≤◌, ◌==◌, ℤ, Bool, true, false, List, [], ◌∷◌, ◌++◌, map, length, codes, if◌then◌else◌}
use Rattle.owned_values.specs.Commas.{with_commas}
use Rattle.json_value.specs.Text.{json_text}
use Rattle.geometry.specs.Lists.{tail}
use Rattle.geometry.specs.Points.{Point}
use Rattle.topojson_types.specs.Topologies.{Contents}
use Rattle.topojson_writer.specs.Decoded.{arc_in}
use Rattle.topojson_writer.specs.FeatureValues.{position_value}

-- these positions, each behind a comma, but the first of a line
abbrev pub positions_text : Bool → List Point → List ℕ
positions_text is_first ps = with_commas is_first (map (λ p. json_text (position_value p)) ps)

-- what an arc adds to the text of a line: the first a bracket and all of its positions, a later one all but its first
abbrev pub added : Bool → List Point → List ℕ
added true arc = codes "[" ++ positions_text true arc
added false arc = positions_text false (tail arc)

-- the first arc has a position
abbrev pub Begins : Contents → List ℤ → Type 0
Begins t [] = ⊥
Begins t (r ∷ refs) = 1 ≤ length (arc_in t r)

-- what stands behind the first bracket that closes (93)
abbrev pub behind_bracket : List ℕ → List ℕ
behind_bracket [] = []
behind_bracket (b ∷ bs) = if b == 93 then bs else behind_bracket bs
