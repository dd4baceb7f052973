use Rattle.std.proofs.Common.{ap, sym, ◌∙◌}
use Rattle.json_writer.proofs.Appending.{as_part, then}
use Rattle.explanations.specs.Brief.{kind_of}
use Rattle.explanations.proofs.Briefly.{rest-some}
use Rattle.explanations.proofs.brief.put_rest.Goals as goal

pub returns-clause-text : goal.returns-clause-text
returns-clause-text g c =
    let kind = c.kind_of-kind.ensures ∙ ap kind_of c.as_bytes.ensures.value in
    let after = rw kind at c.put_after.ensures.text in
    let more = rw (c.with.ensures, kind) at c.put_more-2.ensures.text in
    as_part _ (rest-some _ _ (sym c.is_empty.ensures ∙ c.if-is_empty.false)) (then _ _ _ after more)
