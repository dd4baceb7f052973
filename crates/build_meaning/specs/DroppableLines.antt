-- The lines and rings of shapes and layers, each with why the ring around it is left out, if it is: so it is known of each alone
-- whether it is left out.
use Rattle.std.specs.Prelude.{Bool, true, false, List, [], ◌∷◌, map, Option, None, Some}
use Rattle.geometry.specs.declared.address.Cause.{Cause}
use Rattle.geometry.specs.declared.shape.Geometry.{Geometry, fold-Geometry}
use Rattle.geometry.specs.declared.shape.Geometry.TheOpen.{Geometry-F}
use Rattle.geometry.specs.Lists.{joined}
use Rattle.geometry.specs.DropCauses.{inner_cause}

-- an open line (false) or a ring (true); around a hole lies the outer ring, which may be left out
pub record DroppableLine (L : Type 0) : Type 0 where
  pub outer : Option Cause
  pub closed : Bool
  pub line : L

-- a line or ring that is no hole
abbrev pub free : {L : Type 0} → Bool → L → DroppableLine L
free closed l = record { outer = None; closed = closed; line = l }

-- a hole
abbrev pub hole : {L : Type 0} → Option Cause → L → DroppableLine L
hole outer l = record { outer = outer; closed = true; line = l }

abbrev pub area_droppable_lines : {L : Type 0} → (L → Option Cause) → List L → List (DroppableLine L)
area_droppable_lines why [] = []
area_droppable_lines why (outer ∷ holes) = free true outer ∷ map (hole (why outer)) holes

-- one level, with those of the shapes of a group in their place
abbrev pub droppable_lines_step : {P L : Type 0} → (L → Option Cause) → Geometry-F P L L (List (DroppableLine L)) → List (DroppableLine L)
droppable_lines_step why (Geometry-F.Point p) = []
droppable_lines_step why (Geometry-F.MultiPoint ps) = []
droppable_lines_step why (Geometry-F.Line l) = free false l ∷ []
droppable_lines_step why (Geometry-F.Lines ls) = map (free false) ls
droppable_lines_step why (Geometry-F.Area rs) = area_droppable_lines why rs
droppable_lines_step why (Geometry-F.Areas areas) = joined (map (area_droppable_lines why) areas)
droppable_lines_step why (Geometry-F.Group css) = joined css

-- the lines and rings of a shape in reading order; `why` says of a ring why it is left out for its own sake, if it is
unfoldable pub droppable_lines : {P L : Type 0} → (L → Option Cause) → Geometry P L L → List (DroppableLine L)
droppable_lines {P} {L} why = fold-Geometry P L L (List (DroppableLine L)) (droppable_lines_step why)

-- why it is left out: for its own cause, or else because the outer ring is
abbrev pub drop_cause : {L : Type 0} → (Bool → L → Option Cause) → DroppableLine L → Option Cause
drop_cause why c = inner_cause c.outer (why c.closed c.line)

-- what is given for it, unless it is left out
abbrev pub if_kept : {A : Type 0} → Option Cause → Option A → Option A
if_kept None a = a
if_kept (Some c) a = None
