use Rattle.std.proofs.Common.{sym, ◌∙◌}
use Rattle.geojson_model.proofs.FeatureParts.{is_drawn}
use Rattle.geojson_model.proofs.features.drawn_at.Goals as goal

pub returns-in_ok-rest-in-Err-Fault : goal.returns-in_ok-rest-in-Err-Fault
returns-in_ok-rest-in-Err-Fault c =
    let found = c.in_ok-rest-in-Err-Fault.ensures in
    (found.0, found.1, is_drawn c.args.start.exact found.0 c.args.start.counts (λ h. c.in_default.not-Null (c.kind_at.ensures c.args.depth_left found.0 _ found.1 ∙ sym h)) ∙ (rw c.in-Err-Fault.field-0-is at c.in-Err-Fault.ensures) found.0 _ found.1)
