use Rattle.std.proofs.Common.{refl}
use Rattle.geojson_meaning.specs.Members.{named}
use Rattle.geojson_model.proofs.features.FeatureParts.none.Goals as goal

pub returns : goal.returns
unfolding named
returns c = λ start depth_left. record { kind = refl; fields = c.none.ensures start }
