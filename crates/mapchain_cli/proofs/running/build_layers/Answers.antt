use Rattle.std.proofs.Common.{Some, ap, inr, length, refl, ◌∙◌}
use Rattle.std.proofs.lemmas.Result.{err_from_is_err_and}
use Rattle.mapchain_cli.specs.Asking.{texts_of}
use Rattle.inputs.specs.Sources.{Sources}
use Rattle.mapchain_cli.specs.Files.{FileState, done_with_all, used}
use Rattle.mapchain_cli.proofs.Opened.{written_back}
use Rattle.mapchain_cli.proofs.Refusals.{engine_refuses, opening_refuses}
use Rattle.mapchain_cli.proofs.running.build_layers.Goals as goal

pub returns-in_err-sources-clause-refused : goal.returns-in_err-sources-clause-refused
returns-in_err-sources-clause-refused g c =
    let p = err_from_is_err_and c.from_residual.result c.from_residual.ensures.1 in
    rw (p.1, p.2) (opening_refuses (used (g.F.Files.state c.args.files.now) (g.F.Files.state c.open_layers.new.files)) c.args.options.now (texts_of c.args.layers.now) c.args.out.now _ c.in_err-sources.ensures.refused)

pub returns-in_err-report-clause-refused : goal.returns-in_err-report-clause-refused
returns-in_err-report-clause-refused g c =
    let p = err_from_is_err_and c.from_residual-in_err-report.result c.from_residual-in_err-report.ensures.1 in
    let news = c.build_watched-built.new.sources in
    let back = written_back _ news c.in_ok-sources.sources.items c.in_ok-sources.sources.ok.0 (c.build_watched-built.auto.sources ∙ ap length c.as_mut_slice.ensures.value) in
    let noted = c.done_with_all.ensures.noted ∙ ap (λ (s : Sources). done_with_all s (g.F.Files.state c.open_layers.new.files)) back
    ∙ ap (done_with_all news) c.in_ok-sources.ensures.each_once in
    rw (p.1, p.2) (inr (
      _,
      refl,
      engine_refuses (used (g.F.Files.state c.args.files.now) (g.F.Files.state c.done_with_all.new.self)) c.args.options.now (texts_of c.args.layers.now) c.as_mut_slice.result.now news
          c.args.out.now c.build_watched-built.new.sink _ (rw c.as_mut_slice.ensures.value c.in_ok-sources.ensures.opened) noted
          (λ is. ((c.in_err-report.ensures.early _ is).1, (c.in_err-report.ensures.early _ is).2)) c.in_err-report.ensures.refused,
    ))

pub returns-clause-built : goal.returns-clause-built
returns-clause-built g c =
    let news = c.build_watched-built.new.sources in
    let back = written_back _ news c.in_ok-sources.sources.items c.in_ok-sources.sources.ok.0 (c.build_watched-built.auto.sources ∙ ap length c.as_mut_slice.ensures.value) in
    record {
      sources_old = c.as_mut_slice.result.now;
      sources_new = news;
      opened = rw c.as_mut_slice.ensures.value c.in_ok-sources.ensures.opened;
      each_once = c.done_with_all.ensures.noted ∙ ap (λ (s : Sources). done_with_all s (g.F.Files.state c.open_layers.new.files)) back
          ∙ ap (done_with_all news) c.in_ok-sources.ensures.each_once;
      built = c.in_ok-report.ensures.built;
    }

pub returns-clause-reduced : goal.returns-clause-reduced
returns-clause-reduced g c =
    let news = c.build_watched-built.new.sources in
    let back = written_back _ news c.in_ok-sources.sources.items c.in_ok-sources.sources.ok.0 (c.build_watched-built.auto.sources ∙ ap length c.as_mut_slice.ensures.value) in
    let noted = ap (λ (s : FileState). s.noted.sources) c.done_with_all.ensures.noted ∙ ap (λ (s : Sources). Some s) back in
    let calls = c.in_ok-report.ensures.reduced in
    (c.as_mut_slice.result.now, news, rw c.as_mut_slice.ensures.value c.in_ok-sources.ensures.opened, noted, calls)
