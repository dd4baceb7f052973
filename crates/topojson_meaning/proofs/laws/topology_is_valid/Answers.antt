use Rattle.topojson_meaning.proofs.ValidTopologies.{reads_valid}
use Rattle.topojson_meaning.proofs.laws.topology_is_valid.Goals as goal

pub returns : goal.returns
returns c = reads_valid
