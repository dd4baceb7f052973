-- The lines, rings and shapes that may stand in a valid topology (TopoJSON 1.0, section 2.2).
use Rattle.std.specs.Prelude.{◌≡◌, Bool, true, List, length, Option, None, Some, ℤ}
use Rattle.std.specs.List.{AllByRecursion}
use Rattle.geojson_types.specs.Features.{is_some_list}
use Rattle.geometry.specs.Pruning as pruning
use Rattle.topojson_types.specs.Topologies.{TopoShape, Contents}
use Rattle.topojson_types.specs.Validity as valid
use Rattle.topojson_types.specs.Validity.{AreInRange, IsClosed, IsPlace, IsTopology, is_full}

-- an open line (false) or a ring (true) of a valid topology: it has an index, its indexes name arcs, and a ring's arcs close
pub record IsLineOrRing (t : Contents) (b : Bool × List ℤ) : Type 0 where
  pub topology : IsTopology t
  pub full : is_some_list b.1 ≡ true
  pub ranged : AreInRange (length t.arcs) b.1
  pub closed : IsClosed t.arcs b

-- a shape of a valid topology: no list of it but a Group's is empty, and its lines, rings and cells may stand there
pub record IsShape (t : Contents) (s : TopoShape) : Type 0 where
  pub full : is_full s ≡ true
  pub lines_and_rings : AllByRecursion (IsLineOrRing t) (pruning.lines_and_rings s)
  pub places : AllByRecursion (IsPlace t.transform) (valid.places s)

-- a shape of a valid topology, or none
abbrev pub IsShapeOption : Contents → Option TopoShape → Type 0
IsShapeOption t None = Unit {0}
IsShapeOption t (Some s) = IsShape t s
