use Rattle.topojson_decoder.proofs.LostParts as part
use Rattle.topojson_decoder.proofs.index.passed_at.Goals as goal

pub returns : goal.returns
returns c = λ start t. part.found start t c.args.depth_left c.args.bytes c.in_ok-rest.rest c.in_ok-rest.ensures
