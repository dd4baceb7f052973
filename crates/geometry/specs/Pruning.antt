-- Shapes of which some lines and rings are left out and the others replaced, and the lines and rings of shapes.
use Rattle.std.specs.Prelude.{Bool, true, false, List, [], ◌∷◌, map, Option, None, Some}
use Rattle.geometry.specs.declared.shape.Geometry.{Geometry, fold-Geometry}
use Rattle.geometry.specs.declared.shape.Geometry.TheOpen.{Geometry-F}
use Rattle.geometry.specs.declared.shape.Geometry.TheVariants as g
use Rattle.geometry.specs.Lists.{map_some, some_of, unless_empty, joined}

-- a polygon is left out with its outer ring
abbrev pub area_by : {L M : Type 0} → (L → Option M) → List L → Option (List M)
area_by ring [] = None
area_by ring (outer ∷ holes) = map_some (λ o. o ∷ some_of ring holes) (ring outer)

-- one level, with the pruned shapes of a group in their place
abbrev pub prune_step : {P Q L M : Type 0} → (P → Q) → (Bool → L → Option M) → Geometry-F P L L (Option (Geometry Q M M)) → Option (Geometry Q M M)
prune_step place kept (Geometry-F.Point p) = Some (g.Point (place p))
prune_step place kept (Geometry-F.MultiPoint ps) = Some (g.MultiPoint (map place ps))
prune_step place kept (Geometry-F.Line l) = map_some g.Line (kept false l)
prune_step place kept (Geometry-F.Lines ls) = unless_empty g.Lines (some_of (kept false) ls)
prune_step place kept (Geometry-F.Area rs) = map_some g.Area (area_by (kept true) rs)
prune_step place kept (Geometry-F.Areas areas) = unless_empty g.Areas (some_of (area_by (kept true)) areas)
prune_step place kept (Geometry-F.Group ss) = Some (g.Group (some_of (λ s. s) ss))

-- The shape with each position replaced, and with what `kept` gives for each open line (false) and each ring (true). Where it gives
-- nothing the line is left out. A shape left with nothing is none, but a group stays, without its members that are none.
unfoldable pub prune : {P Q L M : Type 0} → (P → Q) → (Bool → L → Option M) → Geometry P L L → Option (Geometry Q M M)
prune {P} {Q} {L} {M} place kept = fold-Geometry P L L (Option (Geometry Q M M)) (prune_step place kept)

-- one level, with the lines and rings of the shapes of a group in their place
abbrev pub lines_and_rings_step : {P L : Type 0} → Geometry-F P L L (List (Bool × L)) → List (Bool × L)
lines_and_rings_step (Geometry-F.Point p) = []
lines_and_rings_step (Geometry-F.MultiPoint ps) = []
lines_and_rings_step (Geometry-F.Line l) = (false, l) ∷ []
lines_and_rings_step (Geometry-F.Lines ls) = map (λ l. (false, l)) ls
lines_and_rings_step (Geometry-F.Area rs) = map (λ l. (true, l)) rs
lines_and_rings_step (Geometry-F.Areas areas) = joined (map (map (λ l. (true, l))) areas)
lines_and_rings_step (Geometry-F.Group ss) = joined ss

-- the open lines (false) and the rings (true) of a shape in reading order
unfoldable pub lines_and_rings : {P L : Type 0} → Geometry P L L → List (Bool × L)
lines_and_rings {P} {L} = fold-Geometry P L L (List (Bool × L)) lines_and_rings_step

-- the open lines (false) and the rings (true) of a shape that may be null, in reading order
abbrev pub option_lines_and_rings : {P L : Type 0} → Option (Geometry P L L) → List (Bool × L)
option_lines_and_rings None = []
option_lines_and_rings (Some s) = lines_and_rings s
