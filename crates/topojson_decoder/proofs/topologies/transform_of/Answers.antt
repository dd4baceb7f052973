use Rattle.topojson_decoder.proofs.TopologyParts as part
use Rattle.topojson_decoder.proofs.topologies.transform_of.Goals as goal

pub returns-in-Never-clause-gives : goal.returns-in-Never-clause-gives
returns-in-Never-clause-gives c = λ ms counts h. part.no_transform ms counts (rw c.in-Never.is at h)
