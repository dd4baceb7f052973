use Rattle.std.proofs.Common.{Err, ap, inl, inr, refl, subst, ◌∙◌}
use Rattle.mapchain_cli.specs.Asking.{CallsFor, IsAnswered, IsRefused}
use Rattle.mapchain_cli.specs.Files.{FileState, Keeps, discarded, not_kept, used}
use Rattle.mapchain_cli.specs.Notes.{Ended}
use Rattle.mapchain_cli.specs.Outputs.{is_build, unkept}
use Rattle.mapchain_cli.proofs.Delivered.{kept_calls, kept_for, same_end, still_pending, unkept_of}
use Rattle.mapchain_cli.proofs.delivering.deliver.Goals as goal

pub returns-else-keep-clause-sent : goal.returns-else-keep-clause-sent
returns-else-keep-clause-sent g c =
    let request = c.args.request.now in
    let output = c.answer.new.out in
    let opened = g.F.Files.state c.answer.new.files in
    let answered = subst (λ (s : FileState). IsAnswered (used s opened) request c.in-Some.output output c.in-Ok.report) c.in-Some.ensures.counted c.in-Ok.ensures.answered in
    let same = same_end output _ _ _ c.into_inner.ensures.taken c.into_inner.ensures.failures c.into_inner.ensures.flushed in
    let refused = unkept_of request c.is_build-is_build.result c.sent-sent.result c.unkept-in-Ok.result c.is_build-is_build.ensures c.unkept-in-Ok.ensures
    ∙ ap (unkept (is_build request)) c.sent-sent.ensures in
    inr (inr (inl (record {
      begins = record { fresh = c.in-Some.output; is_fresh = c.in-Some.ensures.fresh; output = output; opened = opened };
      report = c.in-Ok.report;
      answered = answered;
      away = c.if-keep.ensures.lost refl ∙ ap (λ (e : Ended). not_kept e opened) same;
      refused = ap Err refused;
    })))

pub returns-then-keep-clause-sent : goal.returns-then-keep-clause-sent
returns-then-keep-clause-sent g c =
    let request = c.args.request.now in
    let path = c.args.path.now in
    let output = c.answer.new.out in
    let begun_at = g.F.Files.state c.args.files.now in
    let opened = g.F.Files.state c.answer.new.files in
    let answered = subst (λ (s : FileState). IsAnswered (used s opened) request c.in-Some.output output c.in-Ok.report) c.in-Some.ensures.counted c.in-Ok.ensures.answered in
    let pending = still_pending path begun_at opened request c.in-Some.output output c.in-Ok.report answered in
    let same = same_end output _ _ _ c.into_inner.ensures.taken c.into_inner.ensures.failures c.into_inner.ensures.flushed in
    let kept = subst (λ (e : Ended). Keeps path e opened (g.F.Files.state c.keep.new.self)) same
    (kept_for path _ opened (g.F.Files.state c.keep.new.self) pending (c.if-keep.ensures.kept refl)) in
    inr (inr (inr (record {
      begins = record { fresh = c.in-Some.output; is_fresh = c.in-Some.ensures.fresh; output = output; opened = opened };
      report = c.in-Ok.report;
      answered = answered;
      kept = kept;
      done = refl;
    })))

pub returns-in-Err-clause-sent : goal.returns-in-Err-clause-sent
returns-in-Err-clause-sent g c =
    let request = c.args.request.now in
    let output = c.answer.new.out in
    let opened = g.F.Files.state c.answer.new.files in
    let same = same_end output _ _ _ c.into_inner-in-Err.ensures.taken c.into_inner-in-Err.ensures.failures c.into_inner-in-Err.ensures.flushed in
    let refused = subst (λ (s : FileState). IsRefused (used s opened) request c.in-Some.output output c.in-Err.ending) c.in-Some.ensures.counted c.in-Err.ensures.refused in
    inr (inl (record {
      begins = record { fresh = c.in-Some.output; is_fresh = c.in-Some.ensures.fresh; output = output; opened = opened };
      ending = c.in-Err.ending;
      why = refused;
      away = c.discard.ensures.counted ∙ ap (λ (e : Ended). discarded e opened) same;
      refused = refl;
    }))

pub returns-then-keep-clause-reduced : goal.returns-then-keep-clause-reduced
returns-then-keep-clause-reduced g c =
    let request = c.args.request.now in
    let opened = g.F.Files.state c.answer.new.files in
    let calls = subst (λ (s : FileState). CallsFor (used s opened) request c.args.reducer.now.calls c.answer.new.reducer.calls) c.in-Some.ensures.counted c.in-Ok.ensures.reduced in
    kept_calls c.args.path.now c.in-Some.output _ (g.F.Files.state c.args.files.now) opened (g.F.Files.state c.keep.new.self) request c.args.reducer.now.calls c.answer.new.reducer.calls
    (c.if-keep.ensures.kept refl).1.noted calls
