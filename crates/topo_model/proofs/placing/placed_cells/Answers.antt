use Rattle.std.proofs.Common.{◌∙◌}
use Rattle.std.specs.Option.{option_copied}
use Rattle.owned_values.proofs.Lists.{mapped_all}
use Rattle.topojson_types.specs.Transforms.{place}
use Rattle.topo_model.proofs.Picks.{places_are}
use Rattle.topo_model.proofs.placing.placed_cells.Goals as goal

pub returns : goal.returns
returns c =
    c.of-2.ensures ∙ mapped_all (place (option_copied c.args.transform)) c.args.cells.now c.cells.cell-index c.cells.placed.items c.cells-test.false c.cells.invariant
    ∙ places_are (option_copied c.args.transform) c.args.cells.now
