use Rattle.std.proofs.Common.{refl}
use Rattle.std.specs.Prelude.{codes}
use Rattle.json_writer.proofs.Appending.{begins, goes, ends}
use Rattle.json_writer.proofs.Lists.{array-text, text_by}
use Rattle.topojson_types.specs.Differences.{deltas}
use Rattle.topojson_types.specs.Values.{position_value}
use Rattle.topojson_writer.proofs.Transforms.{cell-goes, cells-end}
use Rattle.topojson_writer.proofs.arc_writer.put_differences.Goals as goal

pub cells-init : goal.cells-init
cells-init g c = rw c.at-before.ensures (begins _ (array-text (position_value 0) (deltas c.args.cells.now)) c.put.ensures.text c.put.ensures.kept)

pub cells-preserved : goal.cells-preserved
cells-preserved g c =
    let next = cell-goes (text_by (position_value 0)) (codes "]") c.cells.is_first c.args.cells.now c.cells.cell-index c.cells.before c.cell-item.result c.cells-test.true c.cell-item.is in
    goes _ (goes _ c.cells.invariant next c.put_comma.ensures.text c.put_comma.ensures.kept) refl c.put_difference.ensures.text c.put_difference.ensures.kept

pub returns-clause-text : goal.returns-clause-text
returns-clause-text g c =
    let none = cells-end (text_by (position_value 0)) (codes "]") c.cells.is_first c.args.cells.now c.cells.cell-index c.cells.before c.cells-test.false in
    ends (rw none at c.cells.invariant) c.put-2.ensures.text
