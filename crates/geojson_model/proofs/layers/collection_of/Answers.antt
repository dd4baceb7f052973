use Rattle.std.proofs.Common.{◌∙◌, ap, sym, Err}
use Rattle.geojson_model.proofs.LayerParts as part
use Rattle.geojson_model.proofs.layers.collection_of.Goals as goal

pub returns-in-Never : goal.returns-in-Never
returns-in-Never g c = λ start ms occurrence. part.no_features start.exact ms start.counts (rw c.in-Never.is at occurrence) ∙ ap Err (sym c.fault_within.ensures)

pub returns-in-Again : goal.returns-in-Again
returns-in-Again g c = λ start ms occurrence.
    let s = rw c.in-Again.is at occurrence in
    part.more_features start.exact ms start.counts s.0 s.1 s.2 s.3 ∙ ap Err (sym c.fault_within-in-Again.ensures)

pub returns-in-Err : goal.returns-in-Err
returns-in-Err g c = λ start ms occurrence.
    let s = rw c.in-Once.is at occurrence in
    part.one_features start.exact ms start.counts s.0 s.1 ∙ (rw c.in-Err.is at s.2)

pub returns-in-Ok : goal.returns-in-Ok
returns-in-Ok g c = λ start ms occurrence.
    let s = rw c.in-Once.is at occurrence in
    part.one_features start.exact ms start.counts s.0 s.1 ∙ (rw c.in-Ok.is at s.2)
