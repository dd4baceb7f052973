use Rattle.topojson_decoder.proofs.FeatureParts.{no_parts}
use Rattle.topojson_decoder.proofs.feature_parts.FeatureParts.none.Goals as goal

pub returns : goal.returns
returns c = λ start depth_left. no_parts start depth_left _ (c.none.ensures start depth_left)
