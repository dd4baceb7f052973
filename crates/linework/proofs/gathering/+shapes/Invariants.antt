use Rattle.std.proofs.Common.{◌≡◌, map, take}
use Rattle.geometry.specs.Paths.{of_parts, placed_lines_and_rings}
use Rattle.linework.specs.Linework.{line_or_ring_at}
use Rattle.junctions.specs.Gathering.{with_lines_and_rings}
use Rattle.linework.proofs.gathering.+shapes.Given as goal

abbrev pub invariant-add_shapes-loop-number : goal.invariant-add_shapes-loop-number
invariant-add_shapes-loop-number l = l.lines ≡ with_lines_and_rings l.initial.lines (map (line_or_ring_at l.fn.address) (of_parts 0 (map placed_lines_and_rings (take l.number l.shapes))))
