use Rattle.std.proofs.lemmas.Result.{err_from_is_err_and}
use Rattle.topojson_writer.specs.Decoded.{object_in}
use Rattle.mapchain_engine.specs.Geo.{features_text}
use Rattle.mapchain_engine.proofs.Sent.{cut}
use Rattle.mapchain_engine.proofs.decoding.send.Goals as goal

pub returns-in_err-sent : goal.returns-in_err-sent
returns-in_err-sent g c =
    let p = err_from_is_err_and c.from_residual.result c.from_residual.ensures.1 in
    let text = features_text (object_in c.args.topology.now c.args.object.now) in
    rw (p.1, p.2) (cut c.args.sink.now c.flush_after.new.sink text _ (c.in_err-sent.ensures c.args.sink.now 0 text c.write_object-written.ensures))

pub returns : goal.returns
returns g c = c.in_ok-sent.ensures c.args.sink.now 0 (features_text (object_in c.args.topology.now c.args.object.now)) c.write_object-written.ensures
