use Rattle.std.proofs.Common.{◌≡◌, true, map, take}
use Rattle.topojson_types.specs.Decoding.{decoded_line, placed_arcs}
use Rattle.topojson_types.proofs.lines.areas.Given as goal

abbrev pub invariant-areas : goal.invariant-areas
invariant-areas l = l.decoded.items ≡ map (map (decoded_line (placed_arcs l.topology.transform l.topology.arcs) true)) (take l.area-index l.areas)
