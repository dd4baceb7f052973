use Rattle.std.proofs.Common.{map, ◌++◌}
use Rattle.std.specs.Prelude.{codes}
use Rattle.json_value.specs.declared.json.Json.{Json}
use Rattle.json_value.specs.declared.json.Json.TheVariants as j
use Rattle.json_value.specs.Text.{json_text}
use Rattle.json_writer.proofs.Appending.{as_part, then}
use Rattle.topojson_types.specs.Values.{feature_value}
use Rattle.topojson_writer.proofs.Whole.{collected}
use Rattle.topojson_writer.proofs.topology_writer.put_collection.Goals as goal

pub returns-clause-text : goal.returns-clause-text
returns-clause-text g c =
    let features : Json = j.Array (map (feature_value g.C.PutValue.value) c.args.features.now) in
    let end = then (g.O.Out.text c.put.new.self) (json_text features) (codes "}") c.put_array.ensures.text c.put-2.ensures.text in
    as_part _ (collected features) (then (g.O.Out.text c.args.out.now) (codes "{\"type\":\"GeometryCollection\",\"geometries\":") (json_text features ++ codes "}") c.put.ensures.text end)
