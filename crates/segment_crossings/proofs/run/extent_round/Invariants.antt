use Rattle.segment_crossings.specs.Lines.{Each}
use Rattle.segment_crossings.specs.Marks.{IsIn}
use Rattle.segment_crossings.proofs.run.extent_round.Given as goal

abbrev pub invariant-loop-rank : goal.invariant-loop-rank
invariant-loop-rank l = Each (IsIn l.extent) l.lines l.fn.run.first l.rank
