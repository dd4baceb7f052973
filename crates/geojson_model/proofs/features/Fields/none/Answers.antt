use Rattle.std.proofs.Common.{refl}
use Rattle.geojson_meaning.specs.Members.{named}
use Rattle.geojson_model.proofs.features.Fields.none.Goals as goal

pub returns : goal.returns
unfolding named
returns c = λ start. record { id = refl; properties = refl; geometry = refl }
