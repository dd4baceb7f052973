use Rattle.std.proofs.lemmas.Result.{err_from_is_err_and}
use Rattle.json_value.specs.Text.{json_text}
use Rattle.topojson_types.specs.Values.{topology_value}
use Rattle.mapchain_engine.proofs.Built.{sent_in_part, sent_whole}
use Rattle.mapchain_engine.proofs.building.send.Goals as goal

pub returns-in_err-flush_after : goal.returns-in_err-flush_after
returns-in_err-flush_after g c =
    let text = json_text (topology_value c.args.topology.now) in
    let p = err_from_is_err_and c.from_residual.result c.from_residual.ensures.1 in
    rw (p.1, p.2) (sent_in_part c.args.sink.now c.flush_after.new.sink text _ (c.in_err-flush_after.ensures c.args.sink.now 0 text c.write_topology-written.ensures))

pub returns : goal.returns
returns g c =
    let text = json_text (topology_value c.args.topology.now) in
    sent_whole c.args.sink.now c.flush_after.new.sink text _ (c.in_ok-flush_after.ensures c.args.sink.now 0 text c.write_topology-written.ensures)
