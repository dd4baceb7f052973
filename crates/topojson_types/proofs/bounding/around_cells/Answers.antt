use Rattle.std.proofs.Common.{Some, [], ◌∷◌, ap, ◌∙◌}
use Rattle.geometry.specs.Points.{Point}
use Rattle.topojson_types.specs.Widening.{widened_by}
use Rattle.topojson_types.proofs.Boxes.{ends, one_by_one}
use Rattle.topojson_types.proofs.bounding.around_cells.Goals as goal

pub returns : goal.returns
returns c =
    ends (λ (c : Point). c ∷ []) c.args.cells.now c.cells.cell-index (Some c.args.corners) (Some (c.cells.least, c.cells.greatest)) c.cells-test.false c.cells.invariant
    ∙ ap (widened_by (Some c.args.corners)) (one_by_one c.args.cells.now)
