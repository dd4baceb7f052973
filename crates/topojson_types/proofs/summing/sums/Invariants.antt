use Rattle.topojson_types.proofs.Grids.{SoFar}
use Rattle.topojson_types.proofs.summing.sums.Given as goal

abbrev pub invariant-differences : goal.invariant-differences
invariant-differences l = SoFar l.differences l.difference-index l.cells.items l.before
