use Rattle.topojson_decoder.proofs.held.held.Goals as goal

pub returns-in-Err : goal.returns-in-Err
returns-in-Err g c = λ read old new h. c.held_stop.ensures read old new (rw c.in-Err.is at h)
