-- What is true of the cells of a grid by its transform.
use Rattle.std.specs.Prelude.{◌≡◌, true, Some}
use Rattle.geometry.specs.Points.{Point}
use Rattle.grid_snap.specs.Axes.{Axes, IsGrid, covers, cell, snapped}
use Rattle.topojson_types.specs.Transforms.{IsTransform, place}
use Rattle.topojson_types.specs.Validity.{IsPlace}
use Rattle.build_meaning.specs.GridTransforms.{transform_of}

-- the texts of a grid's transform are numbers of a transform
abbrev pub HasTransform : Type 0
HasTransform = (g : Axes) → IsGrid g → IsTransform (transform_of g)

-- the cell of a covered position lies at the snapped one; that of a position which is snapped already lies at that position
pub record LiesThere (g : Axes) (p : Point) : Type 0 where
  pub snaps : place (Some (transform_of g)) (cell g p) ≡ snapped g p
  pub stays : snapped g p ≡ p → place (Some (transform_of g)) (cell g p) ≡ p

abbrev pub CellsLieThere : Type 0
CellsLieThere = (g : Axes) (p : Point) → IsGrid g → covers g p ≡ true → LiesThere g p

-- it may stand in a topology with that transform
abbrev pub CellsAreOnGrid : Type 0
CellsAreOnGrid = (g : Axes) (p : Point) → IsGrid g → covers g p ≡ true → IsPlace (Some (transform_of g)) (cell g p)
