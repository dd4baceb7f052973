use Rattle.std.proofs.Common.{sym, ◌∙◌}
use Rattle.json_writer.proofs.Appending.{then}
use Rattle.explanations.specs.Brief.{line_text, more_text}
use Rattle.explanations.proofs.brief.put_after.Goals as goal

pub returns-then-not-are_same-clause-text : goal.returns-then-not-are_same-clause-text
returns-then-not-are_same-clause-text g c =
    rw (sym c.are_same.ensures ∙ c.if-not-are_same.true) (then (g.O.Out.text c.args.out.now) (more_text c.args.run.count) (line_text c.args.line.now) c.put_more.ensures.text c.put_line.ensures.text)
