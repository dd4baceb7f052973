use Rattle.std.proofs.Common.{◌++◌}
use Rattle.std.specs.Prelude.{codes}
use Rattle.json_value.specs.Text.{json_text}
use Rattle.json_writer.proofs.Appending.{as_part, then}
use Rattle.geojson_types.specs.Features.{Featured}
use Rattle.topojson_writer.specs.FeatureTexts.{feature_head}
use Rattle.topojson_writer.specs.FeatureValues.{geometry_value}
use Rattle.topojson_writer.proofs.FeatureParts.{feature-text}
use Rattle.topojson_writer.specs.Decoded.{feature_in}
use Rattle.topojson_writer.proofs.topology_features.put_feature.Goals as goal

pub returns-clause-text : goal.returns-clause-text
returns-clause-text g c =
    let f : Featured = feature_in c.args.topology.now c.args.feature.now in
    let head = rw (c.as_ref.ensures.value, c.as_ref-2.ensures.value) at c.put_feature_head.ensures.text in
    let shown = rw c.as_ref-3.ensures.value at c.put_geometry.ensures.text in
    let geometry = json_text (geometry_value f.shape) in
    let end = then (g.O.Out.text c.put_feature_head.new.out) geometry (codes "}") shown c.put.ensures.text in
    as_part _ (feature-text f) (then (g.O.Out.text c.args.out.now) (feature_head f.id f.properties) (geometry ++ codes "}") head end)
