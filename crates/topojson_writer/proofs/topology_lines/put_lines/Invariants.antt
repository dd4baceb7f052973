use Rattle.std.proofs.Common.{drop, map}
use Rattle.std.specs.Prelude.{codes}
use Rattle.json_value.specs.Text.{json_text}
use Rattle.json_writer.proofs.Appending.{UpTo}
use Rattle.json_writer.proofs.Lists.{list_left, text_by}
use Rattle.topojson_writer.specs.FeatureValues.{positions_value, lines_value}
use Rattle.topojson_writer.specs.Decoded.{line_in}
use Rattle.topojson_writer.proofs.topology_lines.put_lines.Given as goal

abbrev pub invariant-lines : goal.invariant-lines
invariant-lines g l =
    UpTo g.O.Out.text g.O.Out.good l.fn.out l.out (json_text (lines_value (map (line_in l.topology l.is_closed) l.lines)))
    (list_left (text_by (λ line. positions_value (line_in l.topology l.is_closed line))) (codes "]") l.is_first (drop l.refs-index l.lines))
