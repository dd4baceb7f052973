-- Lines and rings inside a shape, each with the way to it.
use Rattle.std.specs.Prelude.{ℕ, suc, Bool, true, false, List, [], ◌∷◌, ◌++◌, map}
use Rattle.geometry.specs.declared.shape.Geometry.{Geometry, fold-Geometry}
use Rattle.geometry.specs.declared.shape.Geometry.TheOpen.{Geometry-F}

-- what stands inside a shape, and the numbers of the parts that lead to it
pub record Placed (A : Type 0) : Type 0 where
  pub path : List ℕ
  pub part : A

-- the only part
abbrev pub alone : {A : Type 0} → A → List (Placed A)
alone x = record { path = []; part = x } ∷ []

-- inside the part of this number
abbrev pub inside_part : {A : Type 0} → ℕ → List (Placed A) → List (Placed A)
inside_part i xs = map (λ x. record { path = i ∷ x.path; part = x.part }) xs

-- what is inside the parts, of which the first has this number
abbrev pub of_parts : {A : Type 0} → ℕ → List (List (Placed A)) → List (Placed A)
of_parts i [] = []
of_parts i (xs ∷ xss) = inside_part i xs ++ of_parts (suc i) xss

-- one level, with the lines and rings of the shapes of a group in their place
abbrev pub placed_step : {P L : Type 0} → Geometry-F P L L (List (Placed (Bool × L))) → List (Placed (Bool × L))
placed_step (Geometry-F.Point p) = []
placed_step (Geometry-F.MultiPoint ps) = []
placed_step (Geometry-F.Line l) = alone (false, l)
placed_step (Geometry-F.Lines ls) = of_parts 0 (map (λ l. alone (false, l)) ls)
placed_step (Geometry-F.Area rs) = of_parts 0 (map (λ l. alone (true, l)) rs)
placed_step (Geometry-F.Areas areas) = of_parts 0 (map (λ rs. of_parts 0 (map (λ l. alone (true, l)) rs)) areas)
placed_step (Geometry-F.Group xss) = of_parts 0 xss

-- the open lines (false) and the rings (true) of a shape in reading order, each with the way to it
unfoldable pub placed_lines_and_rings : {P L : Type 0} → Geometry P L L → List (Placed (Bool × L))
placed_lines_and_rings {P} {L} = fold-Geometry P L L (List (Placed (Bool × L))) placed_step
