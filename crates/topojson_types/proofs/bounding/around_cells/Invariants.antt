use Rattle.std.proofs.Common.{Some, [], ◌∷◌}
use Rattle.geometry.specs.Points.{Point}
use Rattle.topojson_types.proofs.Boxes.{Left}
use Rattle.topojson_types.proofs.bounding.around_cells.Given as goal

abbrev pub invariant-cells : goal.invariant-cells
invariant-cells l = Left (λ (c : Point). c ∷ []) l.cells l.cell-index (Some l.fn.corners) (Some (l.least, l.greatest))
