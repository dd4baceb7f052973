use Rattle.std.proofs.Common.{◌≡◌, map, take}
use Rattle.std.specs.Option.{option_copied}
use Rattle.topojson_types.specs.Transforms.{place}
use Rattle.topo_model.proofs.placing.placed_cells.Given as goal

abbrev pub invariant-cells : goal.invariant-cells
invariant-cells l = l.placed.items ≡ map (place (option_copied l.transform)) (take l.cell-index l.cells)
