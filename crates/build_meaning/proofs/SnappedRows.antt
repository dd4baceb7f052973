-- Worked rows of layers on a grid, computed from the definitions. The fold of a shape is opened by its kind.
use Rattle.std.proofs.Common.{◌≡◌, ℕ, pos, false, List, [], ◌∷◌, ◌++◌, Option, None, Some, refl, ap, ◌∙◌}
use Rattle.build_meaning.proofs.Names.{codes, points_at, prune-line, prune-point, moved_at, Point, prune, same, Collapsed, units_text, Shape, shape_points, Axes, number, cell, snapped, grid_over, Axis, TopoShape, Contents, Many, all_arcs, cleaned, own_cause, celled, transform_of, named_points, named_grid, snapped_named, quantized, Named, moved}
use Rattle.std.specs.Fmt.{digits}
use Rattle.build_meaning.proofs.SimplifiedRows.{at}
use Rattle.geometry.specs.declared.shape.Geometry.TheVariants as g

abbrev axis : ℕ → ℕ → ℕ → Axis
axis first step last = record { first = pos first; step = step; last = last }

-- one layer of two features
abbrev layer : Shape → Shape → Named
layer s t = ((103 ∷ []), record { features = record { id = None; properties = None; shape = Some s } ∷ (record { id = None; properties = None; shape = Some t } ∷ []) }) ∷ []

-- a topology of one object of two features
abbrev topology : Option TopoShape → Option TopoShape → List (List Point) → Contents
topology s t arcs = record {
  objects = ((103 ∷ []), Many (record { id = None; properties = None; shape = s } ∷ (record { id = None; properties = None; shape = t } ∷ []))) ∷ [];
  arcs = arcs;
  transform = None;
}

-- ---- a line and a Point, by four coordinates in each direction; the Point reaches farthest

abbrev bent : List Point
bent = at 0 0 ∷ (at 500000000 1000000000 ∷ (at 1000000000 0 ∷ []))

abbrev corner : Point
corner = at 1000000000 1000000000

abbrev four : Axes
four = record { x = axis 0 333333334 3; y = axis 0 333333334 3 }

four_points : named_points (layer (g.Line bent) (g.Point corner)) ≡ at 0 0 ∷ (at 500000000 1000000000 ∷ (at 1000000000 0 ∷ (at 1000000000 1000000000 ∷ [])))
four_points = ap (λ ps. (ps ++ (shape_points (g.Point corner) ++ [])) ++ []) (points_at.line bent) ∙ ap (λ ps. (bent ++ (ps ++ [])) ++ []) (points_at.point corner)

four_grid : named_grid (Some 4) (layer (g.Line bent) (g.Point corner)) ≡ Some four
four_grid = ap (grid_over 4) four_points

abbrev bent_snapped : List Point
bent_snapped = at 0 0 ∷ (at 333333334 1000000002 ∷ (at 1000000002 0 ∷ []))

four_snapped : snapped_named (Some four) (layer (g.Line bent) (g.Point corner)) ≡ layer (g.Line bent_snapped) (g.Point (at 1000000002 1000000002))
unfolding number
four_snapped =
    ap (λ s. layer s (moved (snapped four) (g.Point corner))) ((moved_at (snapped four)).line bent)
    ∙ ap (λ s. layer (g.Line bent_snapped) s) ((moved_at (snapped four)).point corner)

four_arcs : all_arcs (cleaned false bent_snapped ∷ []) ≡ bent_snapped ∷ []
unfolding same
four_arcs = refl

abbrev refs : TopoShape
refs = g.Line (pos 0 ∷ [])

abbrev four_cells : Contents
four_cells = record (topology (Some refs) (Some (g.Point (at 3 3))) ((at 0 0 ∷ (at 1 3 ∷ (at 3 0 ∷ []))) ∷ [])) {
  transform = Some (record { scale = (codes "0.333333334", codes "0.333333334"); translate = (codes "0", codes "0") });
}

four_quantized : quantized (Some four) (topology (Some refs) (Some (g.Point (at 1000000002 1000000002))) (bent_snapped ∷ [])) ≡ four_cells
unfolding celled transform_of units_text digits number
four_quantized =
    ap (λ s. record (topology s (prune (cell four) (λ closed rs. Some rs) (g.Point (at 1000000002 1000000002))) ((at 0 0 ∷ (at 1 3 ∷ (at 3 0 ∷ []))) ∷ [])) { transform = four_cells.transform })
    (prune-line (cell four) (λ closed rs. Some rs) (pos 0 ∷ []))
    ∙ ap (λ s. record (topology (Some refs) s ((at 0 0 ∷ (at 1 3 ∷ (at 3 0 ∷ []))) ∷ [])) { transform = four_cells.transform })
    (prune-point (cell four) (λ closed rs. Some rs) (at 1000000002 1000000002))

-- ---- two lines at one height, by two coordinates: there the step is one unit, and the shorter line falls together

abbrev long : List Point
long = at 0 5000000000 ∷ (at 10000000000 5000000000 ∷ [])

abbrev short : List Point
short = at 1000000000 5000000000 ∷ (at 2000000000 5000000000 ∷ [])

abbrev two : Axes
two = record { x = axis 0 10000000000 1; y = axis 5000000000 1 1 }

two_points : named_points (layer (g.Line long) (g.Line short)) ≡ at 0 5000000000 ∷ (at 10000000000 5000000000 ∷ (at 1000000000 5000000000 ∷ (at 2000000000 5000000000 ∷ [])))
two_points = ap (λ ps. (ps ++ (shape_points (g.Line short) ++ [])) ++ []) (points_at.line long) ∙ ap (λ ps. (long ++ (ps ++ [])) ++ []) (points_at.line short)

two_grid : named_grid (Some 2) (layer (g.Line long) (g.Line short)) ≡ Some two
two_grid = ap (grid_over 2) two_points

two_snapped : snapped_named (Some two) (layer (g.Line long) (g.Line short)) ≡ layer (g.Line long) (g.Line (at 0 5000000000 ∷ (at 0 5000000000 ∷ [])))
unfolding number
two_snapped =
    ap (λ s. layer s (moved (snapped two) (g.Line short))) ((moved_at (snapped two)).line long)
    ∙ ap (λ s. layer (g.Line long) s) ((moved_at (snapped two)).line short)

two_dropped : own_cause (cleaned false long ∷ []) 0 0 false (at 0 5000000000 ∷ (at 0 5000000000 ∷ [])) ≡ Some Collapsed
unfolding same
two_dropped = refl

abbrev two_cells : Contents
two_cells = record (topology (Some refs) None ((at 0 0 ∷ (at 1 0 ∷ [])) ∷ [])) {
  transform = Some (record { scale = (codes "10", codes "0.000000001"); translate = (codes "0", codes "5") });
}

two_quantized : quantized (Some two) (topology (Some refs) None (long ∷ [])) ≡ two_cells
unfolding celled transform_of units_text digits number
two_quantized =
    ap (λ s. record (topology s None ((at 0 0 ∷ (at 1 0 ∷ [])) ∷ [])) { transform = two_cells.transform }) (prune-line (cell two) (λ closed rs. Some rs) (pos 0 ∷ []))
