use Rattle.std.proofs.Common.{ap, inl, inr, subst, ◌∙◌}
use Rattle.reports.specs.RunReports.{run_text}
use Rattle.mapchain_cli.specs.Files.{FileState, Keeps, discarded, not_kept}
use Rattle.mapchain_cli.specs.Notes.{Ended, ended_of}
use Rattle.mapchain_cli.proofs.Delivered.{kept_for, prefix_of, same_end}
use Rattle.mapchain_cli.proofs.following.put_report.Goals as goal

pub returns-in-Ok-clause-written : goal.returns-in-Ok-clause-written
returns-in-Ok-clause-written g c = λ is_kept.
    let path = c.args.path.now in
    let opened = g.F.Files.state c.begin.new.self in
    let after = g.F.Files.state c.keep.new.self in
    let pending = ap (λ (s : FileState). s.pending) c.in-Some.ensures.counted in
    let sink = c.flush_after.new.sink in
    let same = same_end sink _ _ _ c.into_inner.ensures.taken c.into_inner.ensures.failures c.into_inner.ensures.flushed in
    let kept = subst (λ (e : Ended). Keeps path e opened after) same (kept_for path _ opened after pending (c.keep.ensures.kept is_kept)) in
    let whole = c.in-Ok.ensures c.in-Some.output 0 (run_text c.args.run.now) c.write_run_report-written.ensures in
    record {
      fresh = c.in-Some.output;
      is_fresh = c.in-Some.ensures.fresh;
      output = sink;
      sent = c.in-Ok.field-0;
      whole = whole.0;
      flushed = whole.1;
      kept = subst (λ (s : FileState). Keeps path (ended_of sink) s after) c.in-Some.ensures.counted kept;
    }

pub returns-in-Ok-clause-unwritten : goal.returns-in-Ok-clause-unwritten
returns-in-Ok-clause-unwritten g c = λ held.
    let opened = g.F.Files.state c.begin.new.self in
    let sink = c.flush_after.new.sink in
    let same = same_end sink _ _ _ c.into_inner.ensures.taken c.into_inner.ensures.failures c.into_inner.ensures.flushed in
    let whole = c.in-Ok.ensures c.in-Some.output 0 (run_text c.args.run.now) c.write_run_report-written.ensures in
    inr (inr (record {
      fresh = c.in-Some.output;
      is_fresh = c.in-Some.ensures.fresh;
      output = sink;
      sent = c.in-Ok.field-0;
      whole = whole.0;
      flushed = whole.1;
      away = c.keep.ensures.lost held ∙ ap (λ (e : Ended). not_kept e opened) same ∙ ap (not_kept (ended_of sink)) c.in-Some.ensures.counted;
    }))

pub returns-in-Err-clause-unwritten : goal.returns-in-Err-clause-unwritten
returns-in-Err-clause-unwritten g c = λ broken.
    let opened = g.F.Files.state c.begin.new.self in
    let sink = c.flush_after.new.sink in
    let same = same_end sink _ _ _ c.into_inner-in-Err.ensures.taken c.into_inner-in-Err.ensures.failures c.into_inner-in-Err.ensures.flushed in
    let failed = c.in-Err.ensures c.in-Some.output 0 (run_text c.args.run.now) c.write_run_report-written.ensures in
    let prefix = prefix_of c.in-Some.output c.flush_after.new.sink 0 (run_text c.args.run.now) c.in-Err.field-0 failed in
    inr (inl (record {
      fresh = c.in-Some.output;
      is_fresh = c.in-Some.ensures.fresh;
      output = sink;
      sent = prefix.0;
      prefix = prefix.1;
      away = c.discard.ensures.counted ∙ ap (λ (e : Ended). discarded e opened) same ∙ ap (discarded (ended_of sink)) c.in-Some.ensures.counted;
    }))
