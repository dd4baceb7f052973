-- From where segments come that meet badly.
use Rattle.std.specs.Prelude.{◌≡◌, ◌≢◌, ◌≤◌, true, List}
use Rattle.geometry.specs.Lists.{In}
use Rattle.guarded_meaning.specs.Arcs.{Neighbours, segment_of}
use Rattle.guarded_meaning.specs.Segments.{meets_badly}

-- the first two vertices are in the same arc as the others, and not outside of them
pub record LiesWithin (old new : Neighbours) : Type 0 where
  pub arc : old.arc ≡ new.arc
  pub start : new.from.index ≤ old.from.index
  pub end : old.to.index ≤ new.to.index

-- Of the old segments between the ends of the one in its arc, and the old segments between the ends of the other in its arc, one of
-- each meet badly.
pub record MetBefore (old : List Neighbours) (new other : Neighbours) : Type 0 where
  pub one : Neighbours
  pub two : Neighbours
  pub one_among : In one old
  pub two_among : In two old
  pub one_within : LiesWithin one new
  pub two_within : LiesWithin two other
  pub apart : one ≢ two
  pub bad : meets_badly (segment_of one) (segment_of two) ≡ true
