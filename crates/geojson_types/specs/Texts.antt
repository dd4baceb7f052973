-- That the texts of a feature are UTF-8 (RFC 8259, section 8.1). In code the type `OwnText` sees to it.
use Rattle.std.specs.Prelude.{ℕ, List, Option, None, Some, IsUtf8}
use Rattle.json_value.specs.declared.json.Json.{Json}
use Rattle.json_value.specs.declared.json.Json.TheVariants as j
use Rattle.json_value.specs.WellFormed.{HasTexts}
use Rattle.geojson_types.specs.declared.id.Id.{Id}
use Rattle.geojson_types.specs.declared.id.Id.TheVariants as id
use Rattle.geojson_types.specs.Features.{Featured}

-- an identifier that is a text is UTF-8
abbrev pub IdHasTexts : Option Id → Type 0
IdHasTexts None = Unit {0}
IdHasTexts (Some (id.Text t)) = IsUtf8 t
IdHasTexts (Some (id.Number n)) = Unit {0}

-- the names and texts in properties are UTF-8
abbrev pub PropertiesHaveTexts : Option (List (List ℕ × Json)) → Type 0
PropertiesHaveTexts None = Unit {0}
PropertiesHaveTexts (Some ms) = HasTexts (j.Object ms)

abbrev pub FeatureHasTexts : Featured → Type 0
FeatureHasTexts f = IdHasTexts f.id × PropertiesHaveTexts f.properties
