use Rattle.std.proofs.Common.{refl}
use Rattle.std.proofs.lemmas.Result.{err_from_is_err_and}
use Rattle.topojson_decoder.specs.Geometries.{part}
use Rattle.topojson_decoder.proofs.geometry_parts.Read.read_at.Goals as goal

pub returns-in_ok-shape-in-Err : goal.returns-in_ok-shape-in-Err
returns-in_ok-shape-in-Err c =
    let found = c.in_ok-shape-in-Err.ensures (part c.args.start c.args.kind) c.args.start.counts c.typed_at.new.counts c.in-Err.ensures in
    (found.0, found.1, (refl, found.2))

pub returns-in_err-shape-in-Err : goal.returns-in_err-shape-in-Err
returns-in_err-shape-in-Err c =
    let p = err_from_is_err_and c.from_residual.result c.from_residual.ensures.1 in
    rw (p.1, p.2) (c.in_err-shape-in-Err.ensures (part c.args.start c.args.kind) c.args.start.counts c.typed_at.new.counts c.in-Err.ensures)
