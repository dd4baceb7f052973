use Rattle.std.proofs.Common.{◌≡◌, ◌-◌, length, take}
use Rattle.std.specs.Prelude.{sum_by}
use Rattle.byte_ends.specs.Ends.{saturated}
use Rattle.geometry.specs.Joins.{arc_at}
use Rattle.topojson_types.specs.Decoding.{placed_arcs}
use Rattle.reports.proofs.positions.later_positions.Given as goal

abbrev pub invariant-refs : goal.invariant-refs
invariant-refs l = l.count ≡ saturated (sum_by (λ r. length (arc_at (placed_arcs l.topology.transform l.topology.arcs) r) - 1) (take l.index-index l.refs))
