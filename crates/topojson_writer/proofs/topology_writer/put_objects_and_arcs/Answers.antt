use Rattle.std.proofs.Common.{map, List, ℕ, ◌++◌}
use Rattle.std.specs.Prelude.{codes}
use Rattle.json_value.specs.declared.json.Json.{Json}
use Rattle.json_value.specs.declared.json.Json.TheVariants as j
use Rattle.json_value.specs.Text.{json_text}
use Rattle.json_writer.proofs.Appending.{as_part, then}
use Rattle.topojson_types.specs.Values.{objects_value}
use Rattle.topojson_writer.proofs.Whole.{contents-text}
use Rattle.topojson_writer.proofs.topology_writer.put_objects_and_arcs.Goals as goal

pub returns-clause-text : goal.returns-clause-text
returns-clause-text g c =
    let start : List ℕ = g.O.Out.text c.args.out.now in
    let objects : Json = objects_value g.C.PutValue.value c.args.topology.now.objects in
    let arcs : Json = j.Array (map g.A.PutValue.value c.args.topology.now.arcs) in
    let second = then (g.O.Out.text c.put_object.new.out) (codes ",\"arcs\":") (json_text arcs) c.put-2.ensures.text (rw c.arcs.ensures.arcs at c.put_array.ensures.text) in
    let first = then start (codes ",\"objects\":") (json_text objects) c.put.ensures.text (rw c.objects.ensures.objects at c.put_object.ensures.text) in
    as_part _ (contents-text objects arcs) (then start (codes ",\"objects\":" ++ json_text objects) (codes ",\"arcs\":" ++ json_text arcs) first second)
