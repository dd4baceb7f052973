use Rattle.topojson_decoder.proofs.KeptValid.{shapes_stay_valid}
use Rattle.topojson_decoder.proofs.kept_laws.shapes_stay_valid.Goals as goal

pub returns : goal.returns
returns c = shapes_stay_valid
