use Rattle.topojson_decoder.proofs.PartsSeen.{no_parts}
use Rattle.topojson_decoder.proofs.geometry_parts.GeometryParts.none.Goals as goal

pub returns : goal.returns
returns c = λ start depth_left. no_parts start depth_left _
