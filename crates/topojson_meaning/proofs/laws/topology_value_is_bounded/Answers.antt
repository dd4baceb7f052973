use Rattle.topojson_meaning.proofs.Written.{topology_depth, topology_numbers}
use Rattle.topojson_meaning.proofs.laws.topology_value_is_bounded.Goals as goal

pub returns-clause-numbers : goal.returns-clause-numbers
returns-clause-numbers c = topology_numbers

pub returns-clause-depth : goal.returns-clause-depth
returns-clause-depth c = topology_depth
