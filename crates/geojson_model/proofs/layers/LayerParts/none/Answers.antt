use Rattle.std.proofs.Common.{refl}
use Rattle.geojson_meaning.specs.Members.{named}
use Rattle.geojson_model.proofs.layers.LayerParts.none.Goals as goal

pub returns : goal.returns
unfolding named
returns g c = λ start depth_left. record { bare = c.none.ensures start depth_left; fields = c.none-2.ensures start; features = refl }
