-- What holds of each value for its types' sake: what `NumText` and `OwnText` see to in code.
use Rattle.std.specs.Prelude.{ℕ, List, [], ◌∷◌, IsUtf8}
use Rattle.std.specs.List.{flat_map, AllByRecursion}
use Rattle.json_value.specs.declared.json.Json.{Json, fold-Json}
use Rattle.json_value.specs.declared.json.Json.TheOpen.{Json-F}
use Rattle.json_value.specs.Numbers.{HasNumbers}

-- one level, with the texts of each value inside in its place
abbrev pub texts_step : Json-F (List (List ℕ)) → List (List ℕ)
texts_step Json-F.Null = []
texts_step (Json-F.Bool b) = []
texts_step (Json-F.Number t) = []
texts_step (Json-F.Text t) = t ∷ []
texts_step (Json-F.Array tss) = flat_map (λ ts. ts) tss
texts_step (Json-F.Object ms) = flat_map (λ m. m.0 ∷ m.1) ms

-- all texts of a value and all names of its members, in order
unfoldable pub texts_of : Json → List (List ℕ)
texts_of = fold-Json (List (List ℕ)) texts_step

-- Each of them is UTF-8.
abbrev pub HasTexts : Json → Type 0
HasTexts v = AllByRecursion IsUtf8 (texts_of v)

-- Each number of the value is a number (RFC 8259, section 6), and each text and name is UTF-8.
pub record IsWellFormed (v : Json) : Type 0 where
  pub numbers : HasNumbers v
  pub texts : HasTexts v
