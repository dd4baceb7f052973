use Rattle.topojson_types.proofs.SumsBack.{SoFar}
use Rattle.topojson_types.proofs.differing.deltas.Given as goal

abbrev pub invariant-cells : goal.invariant-cells
invariant-cells l = SoFar l.cells l.cell-index l.differences.items l.before
