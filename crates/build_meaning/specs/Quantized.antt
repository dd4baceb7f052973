-- Layers and topologies, quantized where a grid is asked for.
use Rattle.std.specs.Prelude.{◌≡◌, ℕ, ◌≤◌, true, List, Option, None, Some, map}
use Rattle.std.specs.List.{AllByRecursion}
use Rattle.build_meaning.specs.Layers.{Named, layers_of}
use Rattle.geometry.specs.Points.{Point, IsInput}
use Rattle.grid_snap.specs.Axes.{Axes, IsGrid, covers, cell, snapped, grid_over, count_limit}
use Rattle.grid_snap.specs.Snapping.{layers_points, snapped_layer}
use Rattle.build_meaning.specs.GridTransforms.{transform_of}
use Rattle.build_meaning.specs.Celled.{celled}
use Rattle.topojson_types.specs.Topologies.{Contents}

-- ---- what is asked for

-- the positions of all layers, those of Points too
abbrev pub named_points : Named → List Point
named_points ls = layers_points (layers_of ls)

-- each is one that is read
abbrev pub AreInputs : Named → Type 0
AreInputs ls = AllByRecursion IsInput (named_points ls)

-- no grid, or one of as many coordinates in each direction as there may be
abbrev pub IsCount : Option ℕ → Type 0
IsCount None = Unit {0}
IsCount (Some count) = (2 ≤ count) × (count ≤ count_limit)

-- the grid of so many coordinates over the positions of all layers; there is none without a position, and where none is asked for
abbrev pub named_grid : Option ℕ → Named → Option Axes
named_grid None ls = None
named_grid (Some count) ls = grid_over count (named_points ls)

-- ---- layers and topologies on it

-- each layer snapped to the grid, under its name; without a grid they are as they were
abbrev pub snapped_named : Option Axes → Named → Named
snapped_named None ls = ls
snapped_named (Some g) ls = map (λ l. (l.0, snapped_layer g l.1)) ls

-- a topology without a transform with the cells of its positions in their place, and with the grid's transform; without a grid it
-- is as it was
abbrev pub quantized : Option Axes → Contents → Contents
quantized None y = y
quantized (Some g) y = celled (transform_of g) (cell g) y

-- ---- what lies on it

-- it is one of the grids that are made, if there is one
abbrev pub IsGridIfSome : Option Axes → Type 0
IsGridIfSome None = Unit {0}
IsGridIfSome (Some g) = IsGrid g

-- the position is covered, and snapping leaves it where it is
abbrev pub IsOn : Option Axes → Point → Type 0
IsOn None p = Unit {0}
IsOn (Some g) p = (covers g p ≡ true) × (snapped g p ≡ p)

-- each position of layers lies on such a grid
abbrev pub AreOn : Option Axes → Named → Type 0
AreOn g ls = IsGridIfSome g × AllByRecursion (IsOn g) (named_points ls)
