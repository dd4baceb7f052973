use Rattle.std.proofs.Common.{true, drop, map}
use Rattle.std.specs.Prelude.{codes}
use Rattle.json_value.specs.Text.{json_text}
use Rattle.json_writer.proofs.Appending.{UpTo}
use Rattle.json_writer.proofs.Lists.{list_left, text_by}
use Rattle.topojson_writer.specs.FeatureValues.{lines_value, polygons_value}
use Rattle.topojson_writer.specs.Decoded.{line_in}
use Rattle.topojson_writer.proofs.topology_lines.put_areas.Given as goal

abbrev pub invariant-areas : goal.invariant-areas
invariant-areas g l =
    UpTo g.O.Out.text g.O.Out.good l.fn.out l.out (json_text (polygons_value (map (map (line_in l.topology true)) l.areas)))
    (list_left (text_by (λ rs. lines_value (map (line_in l.topology true) rs))) (codes "]") l.is_first (drop l.rings-index l.areas))
