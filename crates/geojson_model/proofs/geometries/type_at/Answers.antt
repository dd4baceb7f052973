use Rattle.std.proofs.Common.{ap, sym, ◌∙◌}
use Rattle.json_value.proofs.KindsOf.{text_of-text}
use Rattle.json_value.specs.declared.json.Json.TheVariants as j
use Rattle.json_cursor.specs.Names.{name_of}
use Rattle.geojson_meaning.specs.Reader.{or_fail}
use Rattle.geojson_meaning.specs.declared.fault.GeoFaultKind.TheVariants.{UnknownType}
use Rattle.geojson_model.specs.Members.{type_in}
use Rattle.geojson_model.proofs.geometries.type_at.Goals as goal

pub returns-in-None : goal.returns-in-None
returns-in-None c = (
  j.Text (name_of c.in-Some.name),
  (rw c.in-Some.is at c.in_ok-name.ensures) c.args.depth_left,
  rw c.as_str.ensures at (ap (or_fail UnknownType) c.in-None.ensures) ∙ sym (ap type_in (text_of-text (name_of c.in-Some.name))),
)

pub returns : goal.returns
returns c = (
  j.Text (name_of c.in-Some.name),
  (rw c.in-Some.is at c.in_ok-name.ensures) c.args.depth_left,
  rw c.as_str.ensures at (ap (or_fail UnknownType) c.in-Some-geojson_type.ensures) ∙ sym (ap type_in (text_of-text (name_of c.in-Some.name))),
)
