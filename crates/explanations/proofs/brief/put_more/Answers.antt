use Rattle.std.specs.Prelude.{codes}
use Rattle.std.proofs.lemmas.Bool.{lt-leb}
use Rattle.json_writer.proofs.Appending.{then}
use Rattle.explanations.proofs.brief.put_more.Goals as goal

pub returns-clause-text : goal.returns-clause-text
returns-clause-text g c =
    let number = rw c.as_bytes.ensures.value at c.put-2.ensures.text in
    let written = rw c.format.ensures.text at number in
    let start = g.O.Out.text c.args.out.now in
    let front = then start (codes "  and ") _ c.put.ensures.text written in
    rw (lt-leb c.args.count 10 c.if-count-le-MOST.false) (then start _ (codes " more\n") front c.put-3.ensures.text)
