use Rattle.std.proofs.Common.{◌≡◌, false, map, take}
use Rattle.topojson_types.specs.Decoding.{decoded_line, placed_arcs}
use Rattle.topojson_types.proofs.lines.lines.Given as goal

abbrev pub invariant-lines : goal.invariant-lines
invariant-lines l = l.decoded.items ≡ map (decoded_line (placed_arcs l.topology.transform l.topology.arcs) false) (take l.refs-index l.lines)
