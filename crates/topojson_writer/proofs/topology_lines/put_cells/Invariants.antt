use Rattle.std.proofs.Common.{drop, map}
use Rattle.std.specs.Option.{option_copied}
use Rattle.std.specs.Prelude.{codes}
use Rattle.json_value.specs.Text.{json_text}
use Rattle.json_writer.proofs.Appending.{UpTo}
use Rattle.json_writer.proofs.Lists.{list_left, text_by}
use Rattle.topojson_writer.specs.FeatureValues.{position_value, positions_value}
use Rattle.topojson_types.specs.Transforms.{place}
use Rattle.topojson_writer.proofs.topology_lines.put_cells.Given as goal

abbrev pub invariant-cells : goal.invariant-cells
invariant-cells g l =
    UpTo g.O.Out.text g.O.Out.good l.fn.out l.out (json_text (positions_value (map (place (option_copied l.transform)) l.cells)))
    (list_left (text_by (λ c. position_value (place (option_copied l.transform) c))) (codes "]") l.is_first (drop l.cell-index l.cells))
