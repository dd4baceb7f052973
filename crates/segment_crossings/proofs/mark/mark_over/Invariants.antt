use Rattle.std.proofs.Common.{◌≡◌}
use Rattle.segment_crossings.specs.Lines.{Each}
use Rattle.segment_crossings.specs.Marks.{Covers}
use Rattle.segment_crossings.proofs.mark.mark_over.Given as goal

abbrev pub invariant-loop-rank : goal.invariant-loop-rank
invariant-loop-rank l = record { run : l.mark.run ≡ l.fn.run; each : Each (Covers l.mark) l.lines l.fn.run.first l.rank }
