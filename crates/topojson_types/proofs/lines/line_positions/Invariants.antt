use Rattle.std.proofs.Common.{◌≡◌, ◌++◌}
use Rattle.topojson_types.specs.Decoding.{decoded_line, placed_arcs}
use Rattle.topojson_types.proofs.lines.line_positions.Given as goal

-- what is read, before what is left of the walk, is the whole walk
abbrev pub invariant-positions : goal.invariant-positions
invariant-positions l = l.positions.items ++ l.position-iterator ≡ decoded_line (placed_arcs l.fn.topology.transform l.fn.topology.arcs) l.is_closed l.refs
