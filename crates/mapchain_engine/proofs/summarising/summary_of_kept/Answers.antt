use Rattle.std.proofs.Common.{ap, sym, ◌∙◌}
use Rattle.mapchain_engine.specs.Numbered.{numbered, numbered_by}
use Rattle.mapchain_engine.proofs.Counted.{summary_kept, written_back}
use Rattle.mapchain_engine.proofs.summarising.summary_of_kept.Goals as goal

pub returns-in-None : goal.returns-in-None
returns-in-None c = λ k t kept.
    summary_kept c.args.parts.now k t kept c.in_ok-summary.summary (rw (c.as_slice.ensures, c.as_slice-2.ensures, c.is_some.ensures) at c.in_ok-summary.ensures)
    _ (ap (λ ns. numbered_by ns c.in_ok-summary.summary.objects) (sym c.in-None.is)) c.unwrap_or.result c.unwrap_or.ensures

pub returns-in-Some : goal.returns-in-Some
returns-in-Some c = λ k t kept.
    summary_kept c.args.parts.now k t kept c.in_ok-summary.summary (rw (c.as_slice.ensures, c.as_slice-2.ensures, c.is_some.ensures) at c.in_ok-summary.ensures)
    _ (written_back _ _ _ (c.put_features.ensures ∙ ap (numbered _) c.as_mut_slice.ensures.value)
    ∙ ap (λ ns. numbered ns c.in_ok-summary.summary.objects) c.as_slice-in-Some.ensures ∙ ap (λ ns. numbered_by ns c.in_ok-summary.summary.objects) (sym c.in-Some.is)) c.unwrap_or.result c.unwrap_or.ensures
