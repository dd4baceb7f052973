use Rattle.std.proofs.Common.{◌≡◌, take}
use Rattle.linework.specs.Linework.{lines_and_rings_of_layers}
use Rattle.junctions.specs.Gathering.{nothing_gathered, with_lines_and_rings}
use Rattle.linework.proofs.layers.LinesOfLayers.of.Given as goal

abbrev pub invariant-loop-number : goal.invariant-loop-number
invariant-loop-number l = l.lines ≡ with_lines_and_rings nothing_gathered (lines_and_rings_of_layers 0 (take l.number l.layers))
