use Rattle.geojson_model.proofs.coordinate_members.read_at.Goals as goal

pub returns-in_ok-rest-in-Err-Fault : goal.returns-in_ok-rest-in-Err-Fault
returns-in_ok-rest-in-Err-Fault c =
    let found = c.in_ok-rest-in-Err-Fault.ensures in
    (found.0, found.1, record { prefix = (_, found.1); read = (rw c.in-Err-Fault.field-0-is at c.in-Err-Fault.ensures) found.0 _ found.1 })
