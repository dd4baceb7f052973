use Rattle.std.proofs.Common.{None}
use Rattle.std.specs.Option.{option_copied}
use Rattle.json_cursor.specs.Arrays.{prefix_value}
use Rattle.topojson_meaning.specs.Features.{feature_element}
use Rattle.topojson_decoder.specs.Kept.{of_feature}
use Rattle.topojson_decoder.specs.declared.keeping.Keeping.TheVariants.{Whole}
use Rattle.topojson_decoder.proofs.KeptParts.{answers_back, whole_feature}
use Rattle.topojson_decoder.proofs.collected_features.feature_at.Goals as goal

pub returns : goal.returns
returns c =
    answers_back (of_feature (Whole None)) (λ x. x) (whole_feature None) (feature_element (option_copied c.args.transform) c.args.arcs.now) (prefix_value c.args.depth_left c.args.bytes.now) c.args.counts.now c.kept_feature_at.new.counts
    c.kept_feature_at.result c.kept_feature_at.ensures
