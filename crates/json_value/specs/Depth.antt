-- How deep arrays and objects nest in a value.
use Rattle.std.specs.Prelude.{ℕ, suc, max, List, [], ◌∷◌, map}
use Rattle.json_value.specs.declared.json.Json.{Json, fold-Json}
use Rattle.json_value.specs.declared.json.Json.TheOpen.{Json-F}

-- the greatest number, or 0
abbrev pub greatest : List ℕ → ℕ
greatest [] = 0
greatest (n ∷ ns) = max n (greatest ns)

-- one level, with the depth of each value inside in its place
abbrev pub depth_step : Json-F ℕ → ℕ
depth_step Json-F.Null = 0
depth_step (Json-F.Bool b) = 0
depth_step (Json-F.Number t) = 0
depth_step (Json-F.Text t) = 0
depth_step (Json-F.Array ds) = suc (greatest ds)
depth_step (Json-F.Object ms) = suc (greatest (map (λ m. m.1) ms))

-- the depth of a value: 0 without arrays and objects, and an array or object is one deeper than its deepest value
unfoldable pub depth : Json → ℕ
depth = fold-Json ℕ depth_step
