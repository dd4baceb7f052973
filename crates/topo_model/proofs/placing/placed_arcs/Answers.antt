use Rattle.std.proofs.Common.{◌∙◌}
use Rattle.std.specs.Option.{option_copied}
use Rattle.build_meaning.specs.Thresholds.{placed_cells}
use Rattle.owned_values.proofs.Lists.{mapped_all}
use Rattle.topo_model.proofs.Picks.{arcs_are}
use Rattle.topo_model.proofs.placing.placed_arcs.Goals as goal

pub returns : goal.returns
returns c =
    mapped_all (placed_cells (option_copied c.args.transform)) c.args.arcs.now c.arcs.arc-index c.arcs.placed.items c.arcs-test.false c.arcs.invariant ∙ arcs_are (option_copied c.args.transform) c.args.arcs.now
