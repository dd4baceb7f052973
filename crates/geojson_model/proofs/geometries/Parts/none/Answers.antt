use Rattle.std.proofs.Common.{refl}
use Rattle.geojson_meaning.specs.Members.{named}
use Rattle.geojson_model.proofs.geometries.Parts.none.Goals as goal

pub returns : goal.returns
unfolding named
returns c = λ start depth_left. record { kind = refl; coordinates = refl; geometries = refl }
