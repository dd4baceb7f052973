use Rattle.std.proofs.Common.{◌-◌, ◌∙◌, ap, sym, Err}
use Rattle.json_value.specs.declared.json.Json.TheVariants as j
use Rattle.geojson_model.proofs.LayerParts as part
use Rattle.geojson_model.proofs.layers.layer_at.Goals as goal

pub returns-in_ok-rest-in-Ok-None : goal.returns-in_ok-rest-in-Ok-None
returns-in_ok-rest-in-Ok-None g c =
    let found = c.in_ok-rest-in-Ok-None.ensures in
    (found.0, found.1, part.no_layer c.args.exact found.0 c.args.counts.now ((rw c.in-Ok-None.field-0-is at c.in-Ok-None.ensures) found.0 _ found.1) ∙ ap Err (sym c.fault_within.ensures))

pub features_of-requires : goal.features_of-requires
features_of-requires g c =
    let object = rw c.in-Ok-Some.field-0-is at c.in-Ok-Some.ensures in
    (c.type_bounds.static-D, (object.members, object.holds (c.none-parts.ensures _ (c.args.depth_left - 1))))

pub returns-in-Ok : goal.returns-in-Ok
returns-in-Ok g c =
    let object = rw c.in-Ok-Some.field-0-is at c.in-Ok-Some.ensures in
    (j.Object object.members, object.prefix, part.is_layer c.args.exact object.members c.args.counts.now ∙ c.in-Ok.ensures object.members (object.holds (c.none-parts.ensures _ (c.args.depth_left - 1))))

pub unreachable-requires : goal.unreachable-requires
unreachable-requires g c =
    let object = rw c.in-Ok-Some.field-0-is at c.in-Ok-Some.ensures in
    let judged = rw c.in-Err-NoValue.field-0-is at c.in-Err-NoValue.ensures in
    judged object.members (object.holds (c.none-parts.ensures _ (c.args.depth_left - 1)))

pub returns-in-Err-Fault : goal.returns-in-Err-Fault
returns-in-Err-Fault g c =
    let object = rw c.in-Ok-Some.field-0-is at c.in-Ok-Some.ensures in
    let judged = rw c.in-Err-Fault.field-0-is at c.in-Err-Fault.ensures in
    (j.Object object.members, object.prefix, part.is_layer c.args.exact object.members c.args.counts.now ∙ judged object.members (object.holds (c.none-parts.ensures _ (c.args.depth_left - 1))))
