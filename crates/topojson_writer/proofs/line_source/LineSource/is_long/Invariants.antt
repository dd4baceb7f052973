use Rattle.std.proofs.Common.{◌≤◌, ◌+◌, ◌-◌, map, drop, length}
use Rattle.geometry.specs.Joins.{arc_at, joined_after_first}
use Rattle.topojson_writer.proofs.line_source.LineSource.is_long.Given as goal

abbrev pub invariant-refs : goal.invariant-refs
invariant-refs l =
    record {
      few : l.missing ≤ 3;
      passed : (3 - l.missing) + length (joined_after_first (map (arc_at l.self.arcs) (drop l.reference-index l.refs))) ≤ length (joined_after_first (map (arc_at l.self.arcs) l.refs));
    }
