use Rattle.topojson_decoder.proofs.held.held_stop.Goals as goal

pub returns-in_ok-rest-in-Fault : goal.returns-in_ok-rest-in-Fault
returns-in_ok-rest-in-Fault g c = λ read old new h.
    let found = c.in_ok-rest-in-Fault.ensures in
    (found.0, found.1, (rw c.in-Fault.is at h) found.0 _ found.1)
