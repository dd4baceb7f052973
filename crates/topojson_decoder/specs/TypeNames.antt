-- The names of geometry types, where they stand (TopoJSON 1.0, section 2.2).
use Rattle.std.specs.Prelude.{◌≡◌, ℕ, List, Some}
use Rattle.std.specs.Borrow.{Bor}
use Rattle.json_value.specs.declared.json.Json.TheVariants as j
use Rattle.json_cursor.specs.Arrays.{prefix_value}
use Rattle.topojson_meaning.specs.declared.geometry_type.GeometryType.{GeometryType}
use Rattle.topojson_meaning.specs.GeometryTypes.{geometry_type}

-- the name of this type is the string at the front, and this follows it
abbrev pub IsTypeAt : List ℕ → GeometryType → Bor (List ℕ) → Type 0
IsTypeAt bytes type rest = (name : List ℕ) × ((d : ℕ) → prefix_value d bytes ≡ Some (j.Text name, rest.now)) × (geometry_type name ≡ Some type)
