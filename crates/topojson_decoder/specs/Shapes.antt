-- Shapes of several parts (TopoJSON 1.0, section 2.2).
use Rattle.std.specs.Prelude.{List, Option, Some, None}
use Rattle.geometry.specs.Lists.{unless_empty}
use Rattle.topojson_types.specs.Topologies.{TopoShape}

-- the shape of these parts, unless there are none
abbrev pub unless_none : {A : Type 0} → (List A → TopoShape) → Option (List A) → Option TopoShape
unless_none shape None = None
unless_none shape (Some xs) = unless_empty shape xs
