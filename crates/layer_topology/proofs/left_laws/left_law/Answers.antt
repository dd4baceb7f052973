use Rattle.layer_topology.proofs.Guarded.{left_law}
use Rattle.layer_topology.proofs.left_laws.left_law.Goals as goal

pub returns : goal.returns
returns c =
    left_law c.left_is_valid.ensures c.left_keeps.ensures c.crossings_never_rise.ensures c.no_crossings_law.ensures c.left_arcs_are_reduced.ensures
    c.spared_nests_no_deeper.ensures c.without_small_is_valid.ensures c.without_small_keeps.ensures c.without_small_crosses_no_more.ensures c.shapes_stay_in_turn.ensures
