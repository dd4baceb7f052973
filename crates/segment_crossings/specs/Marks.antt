-- What is known of several segments.
use Rattle.std.specs.Prelude.{◌≡◌, ◌⊎◌, Bool, true, false, List, pos, ◌<ℤ◌, ◌≤ℤ◌}
use Rattle.std.specs.Option.{IfSome}
use Rattle.geometry.specs.Areas.{cross}
use Rattle.geometry.specs.Points.{Point, IsPosition}
use Rattle.guarded_meaning.specs.Segments.{Segment, segment}
use Rattle.planar_predicates.specs.declared.extent.Extent.{Extent}
use Rattle.planar_predicates.specs.Extents.{HoldsPoint}
use Rattle.segment_crossings.specs.declared.line.Line.{Line}
use Rattle.segment_crossings.specs.declared.mark.Mark.{Mark}
use Rattle.segment_crossings.specs.Lines.{Each}

-- a position in the box
pub record HasPosition (e : Extent) (p : Point) : Type 0 where
  pub position : IsPosition p
  pub held : HoldsPoint e p

-- both ends of the segment are in the box
pub record IsIn (e : Extent) (t : Segment) : Type 0 where
  pub from : HasPosition e t.from
  pub to : HasPosition e t.to

-- the segment goes from one of them to the other
abbrev pub Joins : Point → Point → Segment → Type 0
Joins p q t = (t ≡ segment p q) ⊎ (t ≡ segment q p)

-- an end of the segment is here, and the other in the box
pub record RunsInto (p : Point) (e : Extent) (t : Segment) : Type 0 where
  pub other : Point
  pub held : HasPosition e other
  pub ends : Joins p other t

-- strictly to the left (true) or to the right of a line
abbrev pub Off : Bool → Point → Point → Point → Type 0
Off true a b q = (pos 0 <ℤ cross a b q)
Off false a b q = (cross a b q <ℤ pos 0)

-- the box lies strictly on one side of the segment's line
pub record IsOff (e : Extent) (s : Segment) : Type 0 where
  pub side : Bool
  pub off : (q : Point) → HasPosition e q → Off side s.from s.to q

-- the segment has the ends that the mark knows, and is in its strip
pub record Covers (m : Mark) (t : Segment) : Type 0 where
  pub at_from : IfSome m.at_from (λ e. RunsInto m.along.from e t)
  pub at_to : IfSome m.at_to (λ e. RunsInto m.along.to e t)
  pub from_low : m.low ≤ℤ cross m.along.from m.along.to t.from
  pub from_high : cross m.along.from m.along.to t.from ≤ℤ m.high
  pub to_low : m.low ≤ℤ cross m.along.from m.along.to t.to
  pub to_high : cross m.along.from m.along.to t.to ≤ℤ m.high

-- each segment of its run is so
pub record IsMark (ls : List Line) (m : Mark) : Type 0 where
  pub each : Each (Covers m) ls m.run.first m.run.end
