-- What guards promise of what is left of a topology.
use Rattle.std.specs.Prelude.{◌≡◌, ◌≢◌, ℕ, ◌≤◌, ℤ, Bool, true, List, map, Some}
use Rattle.std.specs.List.{filter}
use Rattle.elimination_meaning.specs.Elimination.{Vertex, numbered}
use Rattle.geometry.specs.Lists.{In}
use Rattle.guarded_meaning.specs.Arcs.{Neighbours, segment_of, arc_segments, segments, points_of}
use Rattle.guarded_meaning.specs.Lists.{EachTo, IsThinned}
use Rattle.guarded_meaning.specs.Origins.{MetBefore}
use Rattle.guarded_meaning.specs.Segments.{meets_badly}
use Rattle.topojson_types.specs.Topologies.{Contents}
use Rattle.build_meaning.specs.ArcPositions.{arc_positions, crossings_of}
use Rattle.build_meaning.specs.GridLaws.{all_features}
use Rattle.build_meaning.specs.InTurn.{arcs_in_turn}
use Rattle.build_meaning.specs.LeftLaws.{HasRing}
use Rattle.build_meaning.specs.Protected.{greatest_ring, protected_of}
use Rattle.build_meaning.specs.Trimming.{keep_from}
use Rattle.build_meaning.specs.declared.guards.Guards.{Guards}

-- The arcs of the second topology are some of the first's, in order, each without some of the vertices between its ends, and its segments are those
-- of these arcs, in order. Each two segments of the arcs, left out or not, that meet badly come of two of the first's that met badly: of those between
-- the ends of the one in its arc, and those between the ends of the other in its arc, one of each meet badly. Vertices have their indexes in the
-- first's arcs, and segments the numbers of these.
pub record HasOrigins (before after : Contents) : Type 0 where
  pub vertices : List (List Vertex)
  pub thinned : EachTo IsThinned vertices (map (numbered 0) (arc_positions before))
  pub stays : ℕ → Bool
  pub arcs : arc_positions after ≡ keep_from stays 0 (points_of vertices)
  pub segments_are : segments (arc_positions after) ≡ map segment_of (filter (λ n. stays n.arc) (arc_segments vertices))
  pub met : (new other : Neighbours) → In new (arc_segments vertices) → In other (arc_segments vertices) → new ≢ other
      → meets_badly (segment_of new) (segment_of other) ≡ true → MetBefore (arc_segments (map (numbered 0) (arc_positions before))) new other

-- No more pairs of segments of the last topology meet badly than of the first, and none where none of the first do; and each comes of one of the second's,
-- which is the first one without what goes before arcs are reduced.
pub record CrossesNoMore (before full after : Contents) : Type 0 where
  pub fewer : crossings_of after ≤ crossings_of before
  pub none : crossings_of before ≡ 0 → crossings_of after ≡ 0
  pub origins : HasOrigins full after

-- Each feature of the first topology with an outer ring of four positions or more has the one that encloses most, the first of equals, in the
-- second topology: a ring of the same arcs, as they are reduced at this threshold, and with four positions or more.
abbrev pub KeepsShapes : Guards → ℕ → ℕ → Contents → Contents → Type 0
KeepsShapes guards t limit before after =
    EachTo (λ f g. (refs : List ℤ) → protected_of (greatest_ring (arc_positions before)) g ≡ Some refs → HasRing (arcs_in_turn guards t limit before) (arc_positions after) refs f)
    (all_features after) (all_features before)
