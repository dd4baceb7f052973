use Rattle.std.proofs.Common.{List, ℕ, ◌++◌}
use Rattle.std.specs.Prelude.{codes}
use Rattle.json_value.specs.Text.{json_text}
use Rattle.json_writer.proofs.Appending.{as_part, then}
use Rattle.topojson_types.specs.Values.{pair_value}
use Rattle.topojson_writer.proofs.Transforms.{transform_member-text}
use Rattle.topojson_writer.proofs.transform_writer.put_transform_member.Goals as goal

pub returns-clause-text : goal.returns-clause-text
returns-clause-text g c =
    let scale : List ℕ = json_text (pair_value c.args.transform.now.scale) in
    let translate : List ℕ = json_text (pair_value c.args.transform.now.translate) in
    let name : List ℕ = codes ",\"translate\":" in
    let end = then (g.O.Out.text c.put-2.new.self) translate (codes "}") c.put_numbers-2.ensures.text c.put-3.ensures.text in
    let second = then (g.O.Out.text c.put_numbers.new.out) name (translate ++ codes "}") c.put-2.ensures.text end in
    let first = then (g.O.Out.text c.put.new.self) scale (name ++ (translate ++ codes "}")) c.put_numbers.ensures.text second in
    as_part _ (transform_member-text c.args.transform.now)
    (then (g.O.Out.text c.args.out.now) (codes ",\"transform\":{\"scale\":") (scale ++ (name ++ (translate ++ codes "}"))) c.put.ensures.text first)
