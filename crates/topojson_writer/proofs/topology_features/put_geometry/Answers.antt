use Rattle.std.proofs.Common.{ap, ◌∙◌}
use Rattle.std.specs.Option.{option_copied}
use Rattle.json_value.specs.Text.{json_text}
use Rattle.json_value.proofs.Texts.{text-null}
use Rattle.json_writer.proofs.Appending.{as_part}
use Rattle.geometry.specs.Lists.{then_some}
use Rattle.topojson_writer.specs.FeatureValues.{geometry_value}
use Rattle.topojson_writer.specs.Decoded.{shape_in}
use Rattle.topojson_writer.proofs.topology_features.put_geometry.Goals as goal

pub returns-in-None-clause-text : goal.returns-in-None-clause-text
returns-in-None-clause-text g c =
    as_part _ (ap (λ o. json_text (geometry_value (then_some (shape_in c.args.topology.now) (option_copied o)))) c.in-None.is ∙ text-null) c.put.ensures.text
