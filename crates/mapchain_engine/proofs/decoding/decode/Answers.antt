use Rattle.std.proofs.Common.{Err, Ok, refl}
use Rattle.std.proofs.lemmas.Result.{err_from_is_err_and}
use Rattle.topojson_writer.specs.Decoded.{object_in}
use Rattle.inputs.specs.declared.file_fault.FileFault.TheVariants.{NoObject}
use Rattle.mapchain_engine.proofs.FilesDecided.{found_fails, sent_decides}
use Rattle.mapchain_engine.proofs.FilesRead.{topology_read}
use Rattle.mapchain_engine.proofs.ObjectsFound.{fails_decoding, gives, lacks}
use Rattle.mapchain_engine.proofs.Sent.{prefix, written}
use Rattle.mapchain_engine.proofs.decoding.decode.Goals as goal

-- ---- no topology is spelled

pub returns-in_err-read-clause-decided : goal.returns-in_err-read-clause-decided
returns-in_err-read-clause-decided g c old new is bytes outcome left comes =
    let p = err_from_is_err_and c.from_residual.result c.from_residual.ensures.1 in
    rw (p.1, p.2) (found_fails c.args.sink.now c.args.sink.now c.args.most c.args.name.now old new bytes left outcome comes _
    (fails_decoding c.args.name.now old new c.args.most _ (topology_read old new c.args.bytes.now is (Err _) c.in_err-read.ensures)))

-- ---- it has no object of the name

pub returns-in_default-clause-refused : goal.returns-in_default-clause-refused
returns-in_default-clause-refused g c old new is =
    let read = topology_read old new c.args.bytes.now is (Ok (c.in_ok-read.read.topology, c.in_ok-read._counts)) c.in_ok-read.ensures.0 in
    (refl, lacks c.args.name.now old new c.in_ok-read.read.topology c.in_ok-read._counts read c.in_default.ensures.object)

pub returns-in_default-clause-decided : goal.returns-in_default-clause-decided
returns-in_default-clause-decided g c old new is bytes outcome left comes =
    let read = topology_read old new c.args.bytes.now is (Ok (c.in_ok-read.read.topology, c.in_ok-read._counts)) c.in_ok-read.ensures.0 in
    found_fails c.args.sink.now c.args.sink.now c.args.most c.args.name.now old new bytes left outcome comes NoObject
    (lacks c.args.name.now old new c.in_ok-read.read.topology c.in_ok-read._counts read c.in_default.ensures.object)

-- ---- the features of the object are sent

pub returns-clause-written : goal.returns-clause-written
returns-clause-written g c old new is =
    let read = topology_read old new c.args.bytes.now is (Ok (c.in_ok-read.read.topology, c.in_ok-read._counts)) c.in_ok-read.ensures.0 in
    let given = gives c.args.name.now old new c.in_ok-read.read.topology c.in_ok-read._counts read c.in-Some.object.now c.in-Some.ensures.object in
    written c.args.most c.args.name.now old new c.args.sink.now c.send_within-sent.new.sink (object_in c.in_ok-read.read.topology c.in-Some.object.now) given c.decoded_text_is_utf8.ensures c.send_within-sent.result c.send_within-sent.ensures

pub returns-clause-refused : goal.returns-clause-refused
returns-clause-refused g c old new is =
    let read = topology_read old new c.args.bytes.now is (Ok (c.in_ok-read.read.topology, c.in_ok-read._counts)) c.in_ok-read.ensures.0 in
    let given = gives c.args.name.now old new c.in_ok-read.read.topology c.in_ok-read._counts read c.in-Some.object.now c.in-Some.ensures.object in
    prefix c.args.most c.args.name.now old new c.args.sink.now c.send_within-sent.new.sink (object_in c.in_ok-read.read.topology c.in-Some.object.now) given c.send_within-sent.result c.send_within-sent.ensures

pub returns-clause-decided : goal.returns-clause-decided
returns-clause-decided g c old new is bytes outcome left comes =
    let read = topology_read old new c.args.bytes.now is (Ok (c.in_ok-read.read.topology, c.in_ok-read._counts)) c.in_ok-read.ensures.0 in
    let given = gives c.args.name.now old new c.in_ok-read.read.topology c.in_ok-read._counts read c.in-Some.object.now c.in-Some.ensures.object in
    sent_decides c.args.sink.now c.send_within-sent.new.sink c.args.most c.args.name.now old new bytes left outcome comes (object_in c.in_ok-read.read.topology c.in-Some.object.now) given c.send_within-sent.result c.send_within-sent.ensures
