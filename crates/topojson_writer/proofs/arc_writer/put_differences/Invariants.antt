use Rattle.std.proofs.Common.{drop, map}
use Rattle.std.specs.Prelude.{codes}
use Rattle.json_value.specs.Text.{json_text}
use Rattle.json_value.specs.declared.json.Json.TheVariants as j
use Rattle.json_writer.proofs.Appending.{UpTo}
use Rattle.json_writer.proofs.Lists.{list_left, text_by}
use Rattle.topojson_types.specs.Differences.{deltas, deltas_from}
use Rattle.topojson_types.specs.Values.{position_value}
use Rattle.topojson_writer.proofs.arc_writer.put_differences.Given as goal

abbrev pub invariant-cells : goal.invariant-cells
invariant-cells g l =
    UpTo g.O.Out.text g.O.Out.good l.fn.out l.out (json_text (j.Array (map (position_value 0) (deltas l.cells))))
    (list_left (text_by (position_value 0)) (codes "]") l.is_first (deltas_from l.before (drop l.cell-index l.cells)))
