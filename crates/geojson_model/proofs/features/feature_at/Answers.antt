use Rattle.std.proofs.Common.{◌-◌}
use Rattle.json_value.specs.declared.json.Json.TheVariants as j
use Rattle.json_cursor.specs.Arrays.{prefix_value}
use Rattle.json_cursor.proofs.Steps.{found_stops, text_stops}
use Rattle.geojson_meaning.specs.Features.{feature_element}
use Rattle.geojson_model.proofs.FeatureParts as part
use Rattle.geojson_model.proofs.features.feature_at.Goals as goal

pub returns-in-Err : goal.returns-in-Err
returns-in-Err c = rw c.from.ensures (text_stops (feature_element c.args.exact) (prefix_value c.args.depth_left c.args.bytes.now) c.args.counts.now c.in-Err.fault c.in-Err.ensures)

pub returns-in-Ok-None : goal.returns-in-Ok-None
returns-in-Ok-None c = λ v rest found. part.no_feature c.args.exact v c.args.counts.now ((rw c.in-Ok-None.field-0-is at c.in-Ok-None.ensures) v rest found)

pub feature-requires : goal.feature-requires
feature-requires c =
    let object = rw c.in-Ok-Some.field-0-is at c.in-Ok-Some.ensures in
    (c.args.depth_left - 1, object.members, object.holds (c.none-parts.ensures _ (c.args.depth_left - 1)))

pub returns-in-Err-feature : goal.returns-in-Err-feature
returns-in-Err-feature c =
    let object = rw c.in-Ok-Some.field-0-is at c.in-Ok-Some.ensures in
    let parts = object.holds (c.none-parts.ensures _ (c.args.depth_left - 1)) in
    found_stops (feature_element c.args.exact) (prefix_value c.args.depth_left c.args.bytes.now) c.args.counts.now (j.Object object.members) _ _ object.prefix
    (c.in-Err-feature.ensures (c.args.depth_left - 1) object.members parts)

pub returns-in-Ok : goal.returns-in-Ok
returns-in-Ok c =
    let object = rw c.in-Ok-Some.field-0-is at c.in-Ok-Some.ensures in
    let parts = object.holds (c.none-parts.ensures _ (c.args.depth_left - 1)) in
    record {
      value = j.Object object.members;
      prefix_is = object.prefix;
      means = c.in-Ok.ensures (c.args.depth_left - 1) object.members parts;
    }
