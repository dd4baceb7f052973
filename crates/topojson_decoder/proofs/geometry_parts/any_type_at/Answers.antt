use Rattle.std.proofs.Common.{ap, sym, ◌∙◌}
use Rattle.topojson_decoder.specs.Geometries.{textless_type}
use Rattle.json_value.specs.declared.json.Json.TheVariants as j
use Rattle.json_cursor.specs.Names.{name_of}
use Rattle.topojson_meaning.specs.GeometryTypes.{known}
use Rattle.topojson_decoder.proofs.GeometryParts.{textless, type_of_text}
use Rattle.topojson_decoder.proofs.geometry_parts.any_type_at.Goals as goal

pub returns-in-None : goal.returns-in-None
returns-in-None c = (
  j.Text (name_of c.in-Some.name),
  (rw c.in-Some.is at c.in_ok-name.ensures) c.args.depth_left,
  rw c.as_str.ensures at (ap known c.in-None.ensures) ∙ sym (type_of_text (name_of c.in-Some.name)),
)

pub returns : goal.returns
returns c = (
  j.Text (name_of c.in-Some.name),
  (rw c.in-Some.is at c.in_ok-name.ensures) c.args.depth_left,
  rw c.as_str.ensures at (ap known c.in-Some-geometry_type.ensures) ∙ sym (type_of_text (name_of c.in-Some.name)),
)

pub returns-in_default : goal.returns-in_default
returns-in_default c =
    let found = c.in_ok-rest.ensures in
    (found.0, found.1, c.textless_type.ensures ∙ ap textless_type (c.kind_at.ensures c.args.depth_left found.0 _ found.1) ∙ textless found.0 ((rw c.in_default.is at c.in_ok-name.ensures) c.args.depth_left found.0 _ found.1))
