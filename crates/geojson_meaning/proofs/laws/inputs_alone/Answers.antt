use Rattle.geojson_meaning.proofs.laws.inputs_alone.Goals as goal
use Rattle.geojson_meaning.proofs.SoundLayers.{inputs_alone}

-- src/laws.rt:12:1
pub returns : goal.returns
returns c = inputs_alone
