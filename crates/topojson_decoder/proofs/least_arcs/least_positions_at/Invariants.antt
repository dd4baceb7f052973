use Rattle.topojson_decoder.proofs.LeastArcs.{SoFar}
use Rattle.topojson_decoder.proofs.least_arcs.least_positions_at.Given as goal

abbrev pub invariant-positions : goal.invariant-positions
invariant-positions l = SoFar l.list.items l.inside l.left
