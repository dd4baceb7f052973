-- The positions of what is read are inputs.
use Rattle.std.proofs.Common.{◌≡◌, Bool, List, Ok, All}
use Rattle.geojson_meaning.proofs.Names.{IsInput, Json, Featured, features_points, Counts, layer}
use Rattle.geojson_meaning.proofs.SoundLayers.{inputs_alone}

pub layer_inputs : (exact : Bool) (v : Json) (fs : List Featured) (c : Counts) → layer exact v ≡ Ok (fs, c) → All IsInput (features_points fs)
layer_inputs = inputs_alone
