-- That the number texts of a feature are numbers (RFC 8259, section 6). In code the type `NumText` sees to it.
use Rattle.std.specs.Prelude.{ℕ, List, Option, None, Some}
use Rattle.decimal_text.specs.Grammar.{IsNumber}
use Rattle.json_value.specs.declared.json.Json.{Json}
use Rattle.json_value.specs.declared.json.Json.TheVariants as j
use Rattle.json_value.specs.Numbers.{HasNumbers}
use Rattle.geojson_types.specs.declared.id.Id.{Id}
use Rattle.geojson_types.specs.declared.id.Id.TheVariants as id
use Rattle.geojson_types.specs.Features.{Featured}

-- an identifier that is a number is one
abbrev pub IdHasNumbers : Option Id → Type 0
IdHasNumbers None = Unit {0}
IdHasNumbers (Some (id.Text t)) = Unit {0}
IdHasNumbers (Some (id.Number n)) = IsNumber n

-- the numbers in properties are number texts
abbrev pub PropertiesHaveNumbers : Option (List (List ℕ × Json)) → Type 0
PropertiesHaveNumbers None = Unit {0}
PropertiesHaveNumbers (Some ms) = HasNumbers (j.Object ms)

abbrev pub FeatureHasNumbers : Featured → Type 0
FeatureHasNumbers f = IdHasNumbers f.id × PropertiesHaveNumbers f.properties
