use Rattle.std.proofs.Common.{arith}
use Rattle.topojson_types.specs.Values.{topology_value}
use Rattle.topojson_meaning.proofs.laws.topology_text_is_read.Goals as goal

pub returns : goal.returns
returns c = λ t n d h numbers nest le.
    let depth_left = c.topology_value_is_bounded.ensures.depth t n nest in
    c.text_spells_value.ensures (topology_value t) d (c.topology_value_is_bounded.ensures.numbers t h numbers) (omega arith)
