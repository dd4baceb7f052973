use Rattle.std.proofs.Common.{◌≡◌, true, map, take}
use Rattle.topojson_types.specs.Decoding.{decoded_line, placed_arcs}
use Rattle.topojson_types.proofs.lines.rings.Given as goal

abbrev pub invariant-rings : goal.invariant-rings
invariant-rings l = l.decoded.items ≡ map (decoded_line (placed_arcs l.topology.transform l.topology.arcs) true) (take l.refs-index l.rings)
