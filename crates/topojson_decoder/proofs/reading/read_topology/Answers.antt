use Rattle.topojson_decoder.proofs.ReadingParts.{topology_read, topology_fails}
use Rattle.topojson_decoder.proofs.reading.read_topology.Goals as goal

pub topology_of-requires : goal.topology_of-requires
topology_of-requires c = (c.args.value, c.topology_at.new.counts, topology_read 4294967295 c.deref.result.now c.args.value (rw c.deref.ensures.value c.in_ok-text.ensures) _ _ _ (rw c.none-counts.ensures at c.in-Ok.ensures))

pub returns-in-Err-Fault-clause-fault : goal.returns-in-Err-Fault-clause-fault
returns-in-Err-Fault-clause-fault c =
    let stops = rw (c.in-Err-Fault.field-0-is, c.none-counts.ensures) at c.in-Err-Fault.ensures in
    rw c.in-Err-Fault.field-0-is (λ n. topology_fails 4294967295 c.deref.result.now c.args.value (rw c.deref.ensures.value c.in_ok-text.ensures) c.in-Err-Fault.fault stops)
