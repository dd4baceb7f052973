use Rattle.std.proofs.Common.{drop, map}
use Rattle.geometry.specs.Joins.{arc_at, stitched}
use Rattle.topo_model.specs.Passing.{missing_after, unpassed}
use Rattle.topo_model.proofs.Passed.{Open, later_left}
use Rattle.topo_model.proofs.counting.is_short_rebuilt.Given as goal

abbrev pub invariant-later : goal.invariant-later
invariant-later l = Open missing_after (later_left l.arcs (drop l.index-index l.later)) (stitched (map (arc_at l.arcs) l.refs)) (unpassed l.closed) l.need
