-- What is true of grids and of snapped positions.
use Rattle.std.specs.Prelude.{◌≡◌, ◌↔◌, ℕ, ◌*◌, ◌-◌, ◌≤◌, ℤ, pos, ◌+ℤ◌, ◌≤ℤ◌, Bool, true, List, [], map, None, Some}
use Rattle.std.specs.List.{AllByRecursion}
use Rattle.geojson_types.specs.Features.{Featured, is_proper_option}
use Rattle.geometry.specs.Lists.{In}
use Rattle.geojson_types.specs.Moving.{moved_feature}
use Rattle.geojson_types.specs.Places.{option_points}
use Rattle.geometry.specs.Points.{Point, IsWithin, IsInput, IsPosition}
use Rattle.geometry.specs.Pruning.{option_lines_and_rings}
use Rattle.geometry.specs.Rings.{is_ring}
use Rattle.grid_snap.specs.declared.axis.Axis.{Axis}
use Rattle.grid_snap.specs.Axes.{Axes, IsGrid, IsCell, covers, cell, back, snapped, grid_over, count_limit, reach}

-- ---- the grid over positions

-- it is one of the numbers, and none is less
pub record IsLeast (m : ℤ) (xs : List ℤ) : Type 0 where
  pub among : In m xs
  pub below : AllByRecursion (λ x. m ≤ℤ x) xs

-- so many coordinates this far apart reach from the first one to each number
pub record Serves (count : ℕ) (first : ℤ) (xs : List ℤ) (step : ℕ) : Type 0 where
  pub apart : 1 ≤ step
  pub reaches : AllByRecursion (λ x. x ≤ℤ (first +ℤ pos ((count - 1) * step))) xs

-- an axis begins at the least of the numbers, and its step is the least whole number that serves
pub record IsOver (count : ℕ) (xs : List ℤ) (a : Axis) : Type 0 where
  pub first : IsLeast a.first xs
  pub last : a.last ≡ count - 1
  pub serves : Serves count a.first xs a.step
  pub least : (step : ℕ) → Serves count a.first xs step → a.step ≤ step

-- the grid over positions has such axes, and there is one exactly where there is a position
abbrev pub StepIsLeast : Type 0
StepIsLeast = (count : ℕ) (ps : List Point) → 2 ≤ count →
    ((grid_over count ps ≡ None) ↔ (ps ≡ []))
    × ((g : Axes) → grid_over count ps ≡ Some g → IsOver count (map (λ p. p.x) ps) g.x × IsOver count (map (λ p. p.y) ps) g.y)

-- it covers each of the positions
abbrev pub CoversAll : Type 0
CoversAll = (count : ℕ) (ps : List Point) (g : Axes) → 2 ≤ count → grid_over count ps ≡ Some g → AllByRecursion (λ p. covers g p ≡ true) ps

-- over positions that a layer can hold, and with so many coordinates as there may be, it is one of those that are made
abbrev pub IsMade : Type 0
IsMade = (count : ℕ) (ps : List Point) (g : Axes) → 2 ≤ count → count ≤ count_limit → AllByRecursion IsInput ps → grid_over count ps ≡ Some g → IsGrid g

-- ---- cells and snapped positions

-- a covered position has a cell, which lies at the snapped position; that one is covered, has the same cell and is snapped to itself
pub record Settles (g : Axes) (p : Point) : Type 0 where
  pub numbered : IsCell g (cell g p)
  pub lies : back g (cell g p) ≡ snapped g p
  pub covered : covers g (snapped g p) ≡ true
  pub same : cell g (snapped g p) ≡ cell g p
  pub again : snapped g (snapped g p) ≡ snapped g p

abbrev pub SnappedSettle : Type 0
SnappedSettle = (g : Axes) (p : Point) → IsGrid g → covers g p ≡ true → Settles g p

-- where each cell lies is covered, and that is its cell
abbrev pub CellsAreBack : Type 0
CellsAreBack = (g : Axes) (c : Point) → IsGrid g → IsCell g c → (covers g (back g c) ≡ true) × (cell g (back g c) ≡ c)

-- what is covered, snapped positions among it, is less than a step past the input: a position
abbrev pub CoveredAreWithin : Type 0
CoveredAreWithin = (g : Axes) (p : Point) → IsGrid g → covers g p ≡ true → IsWithin reach p

-- ---- snapped features

-- a ring is one
abbrev pub IsRingIfClosed : Bool × List Point → Type 0
IsRingIfClosed b = b.0 ≡ true → is_ring b.1 ≡ true

-- a snapped feature has the same lines and rings, snapped; its rings are rings, no list of it is empty that wasn't, and its positions
-- are positions
pub record IsAsSound (g : Axes) (before after : Featured) : Type 0 where
  pub proper : is_proper_option after.shape ≡ is_proper_option before.shape
  pub lines_and_rings : option_lines_and_rings after.shape ≡ map (λ b. (b.0, map (snapped g) b.1)) (option_lines_and_rings before.shape)
  pub rings : AllByRecursion IsRingIfClosed (option_lines_and_rings before.shape) → AllByRecursion IsRingIfClosed (option_lines_and_rings after.shape)
  pub places : AllByRecursion IsPosition (option_points after.shape)

abbrev pub SnappedAreSound : Type 0
SnappedAreSound = (g : Axes) (f : Featured) → IsGrid g → AllByRecursion (λ p. covers g p ≡ true) (option_points f.shape)
    → IsAsSound g f (moved_feature (snapped g) f)
