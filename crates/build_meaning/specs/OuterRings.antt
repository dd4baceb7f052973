-- The outer rings of shapes, each with the way to its polygon, and shapes in which one of them is marked.
use Rattle.std.specs.Prelude.{ℕ, suc, ◌==◌, Bool, true, false, List, [], ◌∷◌, map, Option, None, Some, if◌then◌else◌}
use Rattle.geometry.specs.declared.shape.Geometry.{Geometry, fold-Geometry}
use Rattle.geometry.specs.declared.shape.Geometry.TheOpen.{Geometry-F}
use Rattle.geometry.specs.declared.shape.Geometry.TheVariants as g
use Rattle.geometry.specs.Paths.{Placed, alone, of_parts}

-- ---- outer rings

-- of a polygon: its first ring
abbrev pub outer_ring : {L : Type 0} → List L → List (Placed L)
outer_ring [] = []
outer_ring (outer ∷ holes) = alone outer

-- one level, with the outer rings of the shapes of a group in their place
abbrev pub outer_rings_step : {P L : Type 0} → Geometry-F P L L (List (Placed L)) → List (Placed L)
outer_rings_step (Geometry-F.Point p) = []
outer_rings_step (Geometry-F.MultiPoint ps) = []
outer_rings_step (Geometry-F.Line l) = []
outer_rings_step (Geometry-F.Lines ls) = []
outer_rings_step (Geometry-F.Area rs) = outer_ring rs
outer_rings_step (Geometry-F.Areas areas) = of_parts 0 (map outer_ring areas)
outer_rings_step (Geometry-F.Group xss) = of_parts 0 xss

-- the outer rings of a shape in reading order, each with the way to its polygon
unfoldable pub outer_rings : {P L : Type 0} → Geometry P L L → List (Placed L)
outer_rings {P} {L} = fold-Geometry P L L (List (Placed L)) outer_rings_step

-- ---- marks

-- the rest of a way, if it leads into the part of this number
abbrev pub into_part : ℕ → Option (List ℕ) → Option (List ℕ)
into_part i None = None
into_part i (Some []) = None
into_part i (Some (j ∷ way)) = if i == j then Some way else None

-- the way ends here
abbrev pub ends_here : Option (List ℕ) → Bool
ends_here None = false
ends_here (Some []) = true
ends_here (Some (i ∷ way)) = false

-- what is made of each part and of the rest of the way, if it leads into the part; the first has this number
abbrev pub along : {A B : Type 0} → (A → Option (List ℕ) → B) → ℕ → List A → Option (List ℕ) → List B
along f i [] way = []
along f i (x ∷ xs) way = f x (into_part i way) ∷ along f (suc i) xs way

-- a line or ring without a mark
abbrev pub unmarked : {L : Type 0} → L → Bool × L
unmarked l = (false, l)

-- the rings of a polygon, its outer ring with a mark where the way ends here
abbrev pub rings_marked : {L : Type 0} → List L → Option (List ℕ) → List (Bool × L)
rings_marked [] way = []
rings_marked (outer ∷ holes) way = (ends_here way, outer) ∷ map unmarked holes

-- one level, with what is made of the shapes of a group in their place
abbrev pub marked_step : {P L : Type 0} → Geometry-F P L L (Option (List ℕ) → Geometry P (Bool × L) (Bool × L)) → Option (List ℕ) → Geometry P (Bool × L) (Bool × L)
marked_step (Geometry-F.Point p) way = g.Point p
marked_step (Geometry-F.MultiPoint ps) way = g.MultiPoint ps
marked_step (Geometry-F.Line l) way = g.Line (unmarked l)
marked_step (Geometry-F.Lines ls) way = g.Lines (map unmarked ls)
marked_step (Geometry-F.Area rs) way = g.Area (rings_marked rs way)
marked_step (Geometry-F.Areas areas) way = g.Areas (along rings_marked 0 areas way)
marked_step (Geometry-F.Group ms) way = g.Group (along (λ m. m) 0 ms way)

-- the shape with a mark on the outer ring of the polygon to which the way leads, if there is a way, and with none on other lines and rings
unfoldable pub marked : {P L : Type 0} → Geometry P L L → Option (List ℕ) → Geometry P (Bool × L) (Bool × L)
marked {P} {L} = fold-Geometry P L L (Option (List ℕ) → Geometry P (Bool × L) (Bool × L)) marked_step
