-- What contracts see of a feature (RFC 7946, section 3.2).
use Rattle.std.specs.Prelude.{ℕ, List, Option}
use Rattle.json_value.specs.declared.json.Json.{Json}
pub use Rattle.geometry.specs.Shapes.{Shape, is_some_list, is_line, proper_step, is_proper_option}
unfoldable pub use Rattle.geometry.specs.Shapes.{is_proper}
use Rattle.geojson_types.specs.declared.id.Id.{Id}

-- an identifier or none, the members of the properties or null, and a shape or null
pub record Featured : Type 0 where
  pub id : Option Id
  pub properties : Option (List (List ℕ × Json))
  pub shape : Option Shape
