use Rattle.std.proofs.Common.{◌≡◌, map, take}
use Rattle.std.specs.Option.{option_copied}
use Rattle.topojson_types.specs.Transforms.{place}
use Rattle.topojson_types.proofs.lines.positions.Given as goal

abbrev pub invariant-cells : goal.invariant-cells
invariant-cells l = l.positions.items ≡ map (place (option_copied l.transform)) (take l.cell-index l.cells)
