use Rattle.std.proofs.Common.{length}
use Rattle.std.specs.Prelude.{codes}
use denote.Shadow.{shadow}
use denote.Text.{Utf8}
use Rattle.json_value.specs.Text.{json_text}
use Rattle.json_writer.proofs.Appending.{UpTo}
use Rattle.json_writer.proofs.Lists.{list_left}
use Rattle.reports.specs.Lines.{line_text, lines_of, lines_value}
use Rattle.reports.proofs.explanation_writer.put_lines.Given as goal

abbrev pub invariant-lines : goal.invariant-lines
invariant-lines g l = record {
  left : UpTo g.O.Out.text g.O.Out.good l.fn.out l.out (json_text (lines_value l.fn.text)) (list_left line_text (codes "]") l.is_first (lines_of l.rest));
  text : shadow (Utf8 l.rest);
}

abbrev pub decreases-lines : goal.decreases-lines
decreases-lines g l = length l.rest
