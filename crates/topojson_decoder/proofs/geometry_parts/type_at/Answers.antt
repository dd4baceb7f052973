use Rattle.std.proofs.Common.{ap, sym, ◌∙◌}
use Rattle.json_value.specs.declared.json.Json.TheVariants as j
use Rattle.topojson_meaning.specs.GeometryTypes.{known}
use Rattle.topojson_decoder.proofs.GeometryParts.{type_of_text}
use Rattle.topojson_decoder.proofs.geometry_parts.type_at.Goals as goal

pub returns-in-Some : goal.returns-in-Some
returns-in-Some c =
    let found = c.in-Some.ensures in
    (j.Text found.0, found.1 c.args.depth_left, sym (type_of_text found.0 ∙ ap known found.2))
