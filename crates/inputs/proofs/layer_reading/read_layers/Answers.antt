use Rattle.std.proofs.Common.{get_or, ap, refl}
use Rattle.std.proofs.lemmas.Result.{err_from_is_err_and}
use Rattle.inputs.proofs.SourcesRead as sources
use Rattle.inputs.proofs.layer_reading.read_layers.Goals as goal

pub returns-in_err-read : goal.returns-in_err-read
returns-in_err-read g c =
    let i = c.sources.invariant in
    let x = get_or c.sources.sources c.sources.layer c.index-sources-layer.result in
    let p = err_from_is_err_and c.from_residual.result c.from_residual.ensures.1 in
    rw (p.1, p.2)
    (sources.stopped c.args.exact c.args.sources.now c.sources.sources c.sources.layers.items i.0 i.1 c.sources.layer i.2 x c.read_source.new.source c.sources-test.true
    (ap (get_or c.sources.sources c.sources.layer) c.index-sources-layer.is) c.in_err-read.field-0.0 c.in_err-read.ensures)

pub returns-in_err-name : goal.returns-in_err-name
returns-in_err-name g c =
    let i = c.sources.invariant in
    let x = get_or c.sources.sources c.sources.layer c.index-sources-layer.result in
    let p = err_from_is_err_and c.from_residual-in_err-name.result c.from_residual-in_err-name.ensures.1 in
    rw (p.1, p.2)
    (sources.short_of_memory c.args.exact c.args.sources.now c.sources.sources c.sources.layers.items i.0 i.1 c.sources.layer i.2 x c.read_source.new.source c.sources-test.true
    (ap (get_or c.sources.sources c.sources.layer) c.index-sources-layer.is) c.in_ok-read.ensures.1.untroubled)

pub returns-in_err-push : goal.returns-in_err-push
returns-in_err-push g c =
    let i = c.sources.invariant in
    let x = get_or c.sources.sources c.sources.layer c.index-sources-layer.result in
    let p = err_from_is_err_and c.from_residual-in_err-push.result c.from_residual-in_err-push.ensures.1 in
    rw (p.1, p.2)
    (sources.short_of_memory c.args.exact c.args.sources.now c.sources.sources c.sources.layers.items i.0 i.1 c.sources.layer i.2 x c.read_source.new.source c.sources-test.true
    (ap (get_or c.sources.sources c.sources.layer) c.index-sources-layer.is) c.in_ok-read.ensures.1.untroubled)

pub sources-preserved : goal.sources-preserved
sources-preserved g c =
    let i = c.sources.invariant in
    let x = get_or c.sources.sources c.sources.layer c.index-sources-layer.result in
    sources.turn c.args.exact c.args.sources.now c.sources.sources c.sources.layers.items i.0 i.1 c.sources.layer i.2 x c.read_source.new.source c.sources-test.true
    (ap (get_or c.sources.sources c.sources.layer) c.index-sources-layer.is) (c.in_ok-name.name, c.in_ok-read.read) c.in_ok-read.counted c.sources.counts c.sum-counts.result c.push.new.self.items
    (sources.one_read c.args.exact x (x.0, c.read_source.new.source) (c.in_ok-name.name, c.in_ok-read.read) c.in_ok-read.counted refl
    (sources.named c.args.exact c.args.sources.now c.sources.sources c.sources.layers.items i.0 i.1 c.sources.layer i.2 x c.read_source.new.source c.sources-test.true
    (ap (get_or c.sources.sources c.sources.layer) c.index-sources-layer.is) c.in_ok-name.name _ c.in_ok-name.ensures) c.in_ok-read.ensures)
    i.3 c.in_ok-push.ensures.items c.sum-counts.ensures

pub returns : goal.returns
returns g c =
    let i = c.sources.invariant in
    (i.0, sources.ended c.args.exact c.args.sources.now c.sources.sources c.sources.layers.items i.0 i.1 c.sources.layer i.2 c.sources-test.false, i.3)
