-- The lines and rings that are dropped of objects of a draft, where a line or ring without arc indexes had too few positions from the
-- first.
use Rattle.std.specs.Prelude.{ℕ, ℤ, Bool, true, List, [], ◌∷◌, Option, None, Some}
use Rattle.topo_model.specs.Rebuilding.{Rebuilding, Judging}
use Rattle.geometry.specs.declared.address.Cause.{Cause}
use Rattle.geometry.specs.declared.address.Cause.TheVariants.{Collapsed}
use Rattle.geometry.specs.declared.address.Dropped.{Dropped}
use Rattle.geometry.specs.DropCauses.{drop_causes, dropped_of_layer, dropped_of_layers}
use Rattle.geometry.specs.Paths.{Placed}
use Rattle.build_meaning.specs.Expected.{unless}
use Rattle.build_meaning.specs.InTurn.{Paired, cause_in_turn, judged, paired}
use Rattle.build_meaning.specs.OuterRings.{marked}
use Rattle.build_meaning.specs.Protected.{cause_sparing}
use Rattle.build_meaning.specs.Simplified.{Refs, large_refs, small_cause}
use Rattle.topojson_types.specs.declared.feature.TopoFeature.{TopoFeature}
use Rattle.topojson_types.specs.declared.object.TopoObject.{TopoObject}
use Rattle.topojson_types.specs.Topologies.{TopoShape, object_features}
use Rattle.topo_model.specs.Along.{Ways, by_ways, by_object}

-- ---- lines and rings

-- why a line or ring is dropped for its own sake: it has no indexes, or else it is small when it is rebuilt of these arcs
abbrev pub draft_cause : Rebuilding → Bool → List ℤ → Option Cause
draft_cause arcs closed [] = Some Collapsed
draft_cause arcs closed (r ∷ rs) = small_cause arcs.limit arcs.arcs closed (r ∷ rs)

-- why it is at first, if it is judged then
abbrev pub cause_at_first : Option Rebuilding → Bool → List ℤ → Option Cause
cause_at_first None closed refs = None
cause_at_first (Some arcs) closed refs = draft_cause arcs closed refs

-- the arc indexes of a line or ring, unless it is small, at first or then
abbrev pub judged_refs : Option Rebuilding → Rebuilding → Refs
judged_refs None later = large_refs later.limit later.arcs
judged_refs (Some first) later = λ closed refs. unless (cause_in_turn None (small_cause first.limit first.arcs closed refs) (small_cause later.limit later.arcs closed refs)) refs

-- why each is dropped for its own sake, where the ring around a hole is known
abbrev pub WhyPaired : Type 0 → Type 0
WhyPaired L = Bool → Paired L → Option Cause

-- at first or then
abbrev pub draft_causes : Judging → WhyPaired (List ℤ)
draft_causes judging = judged (cause_at_first judging.first) (draft_cause judging.later)

-- those that aren't marked
abbrev pub judging_cause : Judging → WhyPaired (Bool × List ℤ)
judging_cause judging = judged (cause_sparing (cause_at_first judging.first)) (cause_sparing (draft_cause judging.later))

-- where the outer ring stays a hole is dropped for the cause of a line, and else for its own
abbrev pub cause_in_polygon : Option Cause → Option Cause → Option Cause → Option Cause
cause_in_polygon None alone within = alone
cause_in_polygon (Some c) alone within = within

-- why one without a mark is dropped is given, and one with a mark isn't; a hole has none
abbrev pub pair_sparing : WhyPaired (List ℤ) → WhyPaired (Bool × List ℤ)
pair_sparing why closed (None, l) = cause_sparing (λ closed l. why closed (None, l)) closed l
pair_sparing why closed (Some outer, l) =
    cause_in_polygon (cause_sparing (λ closed l. why closed (None, l)) true outer) (cause_sparing (λ closed l. why closed (None, l)) closed l) (cause_sparing (λ closed l. why closed (Some outer.1, l)) closed l)

-- ---- objects

-- the lines and rings of a shape that may be null that are dropped for causes, and the ways to them; the outer ring at the end of the way isn't
abbrev pub shape_drops : WhyPaired (Bool × List ℤ) → Option (List ℕ) → Option TopoShape → List (Placed Cause)
shape_drops why way None = []
shape_drops why way (Some s) = drop_causes why (paired (marked s way))

-- those of each feature, by the way that it has
abbrev pub features_drops : WhyPaired (Bool × List ℤ) → Ways → List TopoFeature → List (List (Placed Cause))
features_drops why = by_ways (λ way f. shape_drops why way f.shape)

-- the lines and rings that are dropped of the features of the object with this number, of which the first has the second number
abbrev pub object_drops : WhyPaired (Bool × List ℤ) → ℕ → ℕ → Ways → List TopoFeature → List Dropped
object_drops why object feature ways fs = dropped_of_layer object feature (features_drops why ways fs)

-- the lines and rings that are dropped of the objects, of which the first has this number, in reading order; an object stands in the place of a layer
abbrev pub objects_dropped : WhyPaired (Bool × List ℤ) → ℕ → Ways → List (List ℕ × TopoObject) → List Dropped
objects_dropped why object ways os = dropped_of_layers object (by_object (λ ways o. features_drops why ways (object_features o.1)) ways os)

-- those that are dropped as a draft is judged
abbrev pub objects_drops : Judging → ℕ → Ways → List (List ℕ × TopoObject) → List Dropped
objects_drops judging = objects_dropped (judging_cause judging)
