use Rattle.std.proofs.Common.{◌≡◌, take}
use Rattle.linework.specs.Linework.{lines_and_rings_of_layer}
use Rattle.junctions.specs.Gathering.{with_lines_and_rings}
use Rattle.linework.proofs.gathering.add_layer.Given as goal

abbrev pub invariant-loop-number : goal.invariant-loop-number
invariant-loop-number l = l.lines ≡ with_lines_and_rings l.initial.lines (lines_and_rings_of_layer l.layer 0 (take l.number l.features))
