use borrow.Author.Rules.{rules}
use Rattle.std.proofs.Common.{ap, refl, ◌∙◌}
use Rattle.json_writer.proofs.Appending.{ends, goes}
use Rattle.reports.proofs.Lines.{shorter}
use Rattle.explanations.specs.Brief.{kind_of}
use Rattle.explanations.proofs.Briefly.{next-line, no-further-line}
use Rattle.explanations.proofs.brief.put_lines.Goals as goal

pub lines-init : goal.lines-init
lines-init g c = record {
  left = record { is = rw c.none-run.ensures refl; kept = λ start h. h };
  text = search rules;
}

pub lines-smaller : goal.lines-smaller
lines-smaller g c = shorter _ _ _ _ c.in-Some.is c.split_once.ensures.cases

pub lines-preserved : goal.lines-preserved
lines-preserved g c =
    let kind = c.kind_of-kind.ensures ∙ ap kind_of c.as_bytes.ensures.value in
    record {
      left = goes _ c.lines.invariant.left (rw (c.with-run.ensures, kind) (next-line c.lines.run _ _ _ _ c.in-Some.is c.split_once.ensures.cases)) (rw kind at c.put_after.ensures.text) c.put_after.ensures.kept;
      text = search rules;
    }

pub returns-clause-text : goal.returns-clause-text
returns-clause-text g c = ends (rw (no-further-line c.lines.run _ _ c.in_default.is c.split_once.ensures.cases) at c.lines.invariant.left) c.put_rest.ensures.text
