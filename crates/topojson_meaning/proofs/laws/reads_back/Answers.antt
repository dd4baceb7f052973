use Rattle.topojson_meaning.proofs.TopologiesBack.{topology_back}
use Rattle.topojson_meaning.proofs.laws.reads_back.Goals as goal

pub returns : goal.returns
returns c = topology_back
