use Rattle.std.proofs.Common.{ap, sym}
use Rattle.topojson_decoder.proofs.collected_features.kept_feature_at.Goals as goal

pub returns : goal.returns
returns c = rw c.after-start.ensures at (c.feature_into.ensures (λ d. c.none-occurrence.ensures _ d) (ap (λ s. s.counts) (sym c.after-start.ensures)))
