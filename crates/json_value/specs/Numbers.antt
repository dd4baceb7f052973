-- Which texts stand as numbers in a value.
use Rattle.std.specs.Prelude.{ℕ, List, [], ◌∷◌}
use Rattle.std.specs.List.{flat_map, AllByRecursion}
use Rattle.decimal_text.specs.Grammar.{IsNumber}
use Rattle.json_value.specs.declared.json.Json.{Json, fold-Json}
use Rattle.json_value.specs.declared.json.Json.TheOpen.{Json-F}

-- one level, with the texts of each value inside in its place
abbrev pub numbers_step : Json-F (List (List ℕ)) → List (List ℕ)
numbers_step Json-F.Null = []
numbers_step (Json-F.Bool b) = []
numbers_step (Json-F.Number t) = t ∷ []
numbers_step (Json-F.Text t) = []
numbers_step (Json-F.Array nss) = flat_map (λ ns. ns) nss
numbers_step (Json-F.Object ms) = flat_map (λ m. m.1) ms

-- the texts of all numbers of a value, in order
unfoldable pub numbers_of : Json → List (List ℕ)
numbers_of = fold-Json (List (List ℕ)) numbers_step

-- Each of them is a number (RFC 8259, section 6). In code the type `NumText` sees to it.
abbrev pub HasNumbers : Json → Type 0
HasNumbers v = AllByRecursion IsNumber (numbers_of v)
