use Rattle.std.proofs.Common.{take}
use Rattle.cutter.proofs.Names.{Replaced, is_cut, started}
use Rattle.cutter.proofs.SharedCuts.{AreSplit}
use Rattle.cutter.proofs.Unlike.{AreMarked}
use Rattle.cutter.proofs.pieces.cut.Given as goal

-- the lines before the index are split, and those after it are as they were
abbrev pub invariant-loop-i : goal.invariant-loop-i
invariant-loop-i l = record {
  turned : Replaced (started (is_cut l.fn.lines.lines_and_rings)) l.fn.lines.lines_and_rings l.i l.lines_and_rings.items;
  split : AreSplit l.fn.lines.lines_and_rings l.i l.cuts.items l.ends.items;
  flags : AreMarked l.fn.lines.lines_and_rings (take l.i l.fn.lines.lines_and_rings) l.alone.items;
}
