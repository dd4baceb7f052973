use Rattle.topojson_decoder.proofs.IndexParts.{no_index}
use Rattle.topojson_decoder.proofs.index.Index.none.Goals as goal

pub returns : goal.returns
returns c = λ start depth_left. no_index start depth_left
