use Rattle.std.proofs.Common.{ap, ◌∙◌}
use Rattle.std.specs.Option.{option_copied}
use Rattle.owned_values.proofs.Lists.{mapped_more, mapped_all}
use Rattle.build_meaning.specs.Thresholds.{placed_cells}
use Rattle.topo_model.proofs.Picks.{arcs_are}
use Rattle.topo_model.proofs.Picks.{places_are}
use Rattle.layer_topology.proofs.topologies.arc_positions.Goals as goal

pub arcs-preserved : goal.arcs-preserved
arcs-preserved c =
    mapped_more (placed_cells (option_copied c.args.transform)) c.args.arcs.now c.arcs.arc-index c.arc-item.result c.arcs.lines.items c.push.new.self.items c.in_ok-positions.field-0 c.arcs-test.true
    c.arc-item.is c.arcs.invariant
    (c.in_ok-positions.ensures ∙ places_are (option_copied c.args.transform) c.as_slice.result.now ∙ ap (placed_cells (option_copied c.args.transform)) c.as_slice.ensures) c.in_ok-push.ensures.items

pub returns : goal.returns
returns c =
    mapped_all (placed_cells (option_copied c.args.transform)) c.args.arcs.now c.arcs.arc-index c.arcs.lines.items c.arcs-test.false c.arcs.invariant ∙ arcs_are (option_copied c.args.transform) c.args.arcs.now
