use Rattle.std.proofs.Common.{length}
use denote.Shadow.{shadow}
use denote.Text.{Utf8}
use Rattle.json_writer.proofs.Appending.{UpTo}
use Rattle.reports.specs.Lines.{lines_of}
use Rattle.explanations.specs.Brief.{brief, brief_after}
use Rattle.explanations.proofs.brief.put_lines.Given as goal

abbrev pub invariant-lines : goal.invariant-lines
invariant-lines g l = record {
  left : UpTo g.O.Out.text g.O.Out.good l.fn.out l.out (brief l.fn.text) (brief_after l.run (lines_of l.rest));
  text : shadow (Utf8 l.rest);
}

abbrev pub decreases-lines : goal.decreases-lines
decreases-lines g l = length l.rest
