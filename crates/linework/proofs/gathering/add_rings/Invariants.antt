use Rattle.std.proofs.Common.{◌≡◌, true, map, take}
use Rattle.geometry.specs.Paths.{alone, of_parts}
use Rattle.linework.specs.Linework.{line_or_ring_at}
use Rattle.junctions.specs.Gathering.{with_lines_and_rings}
use Rattle.linework.proofs.gathering.add_rings.Given as goal

abbrev pub invariant-loop-number : goal.invariant-loop-number
invariant-loop-number l = l.lines ≡ with_lines_and_rings l.initial.lines (map (line_or_ring_at l.address) (of_parts 0 (map (λ r. alone (true, r)) (take l.number l.rings))))
