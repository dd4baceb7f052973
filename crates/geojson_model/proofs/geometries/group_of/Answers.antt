use Rattle.geojson_model.proofs.GeometryParts as part
use Rattle.geojson_model.proofs.geometries.group_of.Goals as goal

pub returns-in-Never : goal.returns-in-Never
returns-in-Never c = λ start ms occurrence. part.no_geometries start.exact ms start.counts (rw c.in-Never.is at occurrence)

pub returns-in-Again : goal.returns-in-Again
returns-in-Again c = λ start ms occurrence.
    let s = rw c.in-Again.is at occurrence in
    part.more_geometries start.exact ms start.counts s.0 s.1 s.2 s.3

pub returns-in-Err : goal.returns-in-Err
returns-in-Err c = λ start ms occurrence.
    let s = rw c.in-Once.is at occurrence in
    part.ungrouped start.exact ms start.counts s.0 s.1 c.in-Err.fault (rw c.in-Err.is at s.2)

pub returns-in-Ok : goal.returns-in-Ok
returns-in-Ok c = λ start ms occurrence.
    let s = rw c.in-Once.is at occurrence in
    part.grouped start.exact ms start.counts s.0 s.1 _ _ (rw c.in-Ok.is at s.2)
