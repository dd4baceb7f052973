use borrow.Author.Rules.{rules}
use Rattle.json_writer.proofs.Appending.{begins, ends, goes, then}
use Rattle.json_writer.proofs.Lists.{array-text}
use Rattle.reports.specs.Lines.{line_value, lines_of}
use Rattle.reports.proofs.Lines.{next-line, no-further-line}
use Rattle.reports.proofs.explanation_writer.put_lines.Goals as goal

pub lines-init : goal.lines-init
lines-init g c = record {
  left = begins _ (array-text line_value (lines_of c.args.text.now)) c.put.ensures.text c.put.ensures.kept;
  text = search rules;
}

pub lines-preserved : goal.lines-preserved
lines-preserved g c = record {
  left = goes _ c.lines.invariant.left (next-line _ _ _ _ _ c.in-Some.is c.split_once.ensures.cases) c.put_line.ensures.text c.put_line.ensures.kept;
  text = search rules;
}

pub returns-clause-text : goal.returns-clause-text
returns-clause-text g c =
    ends (rw (no-further-line c.lines.is_first _ _ c.in_default.is c.split_once.ensures.cases) at c.lines.invariant.left) (then _ _ _ c.put_rest.ensures.text c.put-2.ensures.text)
