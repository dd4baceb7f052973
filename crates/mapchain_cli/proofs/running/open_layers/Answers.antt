use Rattle.std.proofs.Common.{ap, arith, false, inl, inr, refl, true, ◌+◌, ◌∙◌}
use Rattle.std.proofs.lemmas.Result.{err_from_is_err_and}
use Rattle.mapchain_cli.specs.Files.{one_more}
use Rattle.mapchain_cli.proofs.Opened.{prefix_of_texts, next_opened, once_more, still, unopened}
use Rattle.mapchain_cli.proofs.running.open_layers.Goals as goal

pub returns-in_err-from_str-clause-refused : goal.returns-in_err-from_str-clause-refused
returns-in_err-from_str-clause-refused g c =
    let p = err_from_is_err_and c.from_residual.result c.from_residual.ensures.1 in
    rw (p.1, p.2) (inl (refl, (c.layers.layer, prefix_of_texts c.args.layers.now c.layers.layer (omega (arith, c.layers-test.true)), c.layers.invariant.times)))

pub returns-in_err-push-in-Some-clause-refused : goal.returns-in_err-push-in-Some-clause-refused
returns-in_err-push-in-Some-clause-refused g c =
    let p = err_from_is_err_and c.from_residual-in_err-push-in-Some.result c.from_residual-in_err-push-in-Some.ensures.1 in
    let times = c.in-Some.ensures.counted ∙ ap (one_more true) c.layers.invariant.times ∙ once_more c.layers.layer (g.F.Files.state c.args.files.now) in
    rw (p.1, p.2) (inl (refl, (c.layers.layer + 1, prefix_of_texts c.args.layers.now (c.layers.layer + 1) (omega (arith, c.layers-test.true)), times)))

pub returns-in-None-clause-refused : goal.returns-in-None-clause-refused
returns-in-None-clause-refused g c =
    let same = still c.layers.layer (g.F.Files.state c.args.files.now) _ c.layers.invariant.times in
    let absent = rw same at c.in-None.ensures.refused in
    let tried = c.in-None.ensures.counted ∙ ap (one_more false) c.layers.invariant.times in
    inr (_, refl, unopened (g.F.Files.state c.args.files.now) c.args.layers.now c.layers.layer _ c.layers-test.true _ tried absent)

pub layers-preserved : goal.layers-preserved
layers-preserved g c =
    let same = still c.layers.layer (g.F.Files.state c.args.files.now) _ c.layers.invariant.times in
    let opened = rw same at c.in-Some.ensures.opened in
    rw c.in_ok-push-in-Some.ensures.items (record {
      opened = next_opened (g.F.Files.state c.args.files.now) c.args.layers.now c.layers.layer _ c.layers-test.true c.layers.sources.items (c.of-name.result, c.in-Some.source)
          c.layers.invariant.opened (c.of-name.ensures ∙ c.in_ok-from_str.ensures.ok) opened;
      times = c.in-Some.ensures.counted ∙ ap (one_more true) c.layers.invariant.times ∙ once_more c.layers.layer (g.F.Files.state c.args.files.now);
    })
