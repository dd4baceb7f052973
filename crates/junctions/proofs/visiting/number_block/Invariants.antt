use Rattle.std.proofs.Common.{◌≡◌, ◌++◌, List, take}
use Rattle.junctions.proofs.Names.{Point, AreNumbers, with_positions}
use Rattle.junctions.proofs.visiting.number_block.Given as goal

abbrev pub invariant-loop-i : goal.invariant-loop-i
invariant-loop-i l =
    (l.numbering ≡ with_positions l.initial.numbering (take l.i l.positions))
    × ((ps : List Point) → AreNumbers l.initial.numbering l.initial.numbers.items ps → AreNumbers l.numbering l.numbers.items (ps ++ take l.i l.positions))
