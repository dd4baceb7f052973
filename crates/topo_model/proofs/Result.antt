-- The topology that is put together is the one that is left.
use Rattle.std.proofs.Common.{arith, ◌≡◌, ℕ, zero, suc, ◌-◌, ℤ, Bool, true, false, List, [], ◌∷◌, ◌++◌, map, length, take, drop, Option, None, Some, refl, sym, ap, ◌∙◌, subst}
use Rattle.std.specs.List.{AllByRecursion}
use Rattle.std.specs.Prelude.{sum}
use Rattle.topo_model.specs.Rebuilding.{Rebuilding, Judging}
use Rattle.topo_model.specs.Uses.{answers}
use Rattle.topo_model.proofs.Renumbered.{NewIndexesOf, all_renumbered}
use Rattle.build_meaning.specs.Built.{positions_of}
use Rattle.build_meaning.specs.Expected.{unless}
use Rattle.build_meaning.specs.InTurn.{option_dropped_in_turn}
use Rattle.build_meaning.specs.Trimming.{is_used, keep_from, line_renumbered, trimmed}
use Rattle.build_meaning.proofs.Trimmed.{kept_of_map}
use Rattle.geometry.specs.declared.address.Cause.{Cause}
use Rattle.geometry.specs.Joins.{AreInRange}
use Rattle.geometry.specs.DropCauses.{dropped_of_layers}
use Rattle.geometry.specs.Pruning.{lines_and_rings, option_lines_and_rings}
use Rattle.geometry.proofs.Moved.{refilled}
use Rattle.std.proofs.Math.Seq.{take-append_seam}
use Rattle.geometry.specs.Lists.{map_some}
use Rattle.geometry.proofs.Omitted.{drop_causes_agree}
use Rattle.geojson_types.specs.Features.{is_some_list}
use Rattle.geometry.specs.Paths.{Placed}
use Rattle.geometry.specs.Points.{Point, IsPosition}
use Rattle.build_meaning.specs.OuterRings.{marked}
use Rattle.build_meaning.specs.Protected.{Protection, MarkedRefs, cause_sparing, sparing, objects_spared, spared_whole, spared_by, option_unprotected, spared_dropped, spared_removed_count}
use Rattle.build_meaning.specs.Simplified.{Refs, large_refs, object_pruned, objects_pruned, retained_arcs, EachFromFirstToLast, small_cause}
use Rattle.build_meaning.proofs.Again.{all_hold}
use Rattle.build_meaning.proofs.Marks.{lines_and_rings_back, without_mark}
use Rattle.build_meaning.proofs.Objects.{objects_then}
use Rattle.build_meaning.proofs.Spared.{Leaves, objects_left as spared_left}
use Rattle.build_meaning.proofs.ValidRetained.{retained_length}
use Rattle.owned_values.proofs.Elements.{all_parts, all_two, all_of_map, all_weaker}
use Rattle.topojson_types.proofs.Standing.{lines_and_rings_full}
use Rattle.topojson_types.specs.declared.feature.TopoFeature.{TopoFeature}
use Rattle.topojson_types.specs.declared.object.TopoObject.{TopoObject}
use Rattle.topojson_types.specs.declared.object.TopoObject.TheVariants.{One, Many}
use Rattle.topojson_types.specs.declared.transform.Transform.{Transform}
use Rattle.topojson_types.specs.Decoding.{placed_arcs}
use Rattle.topojson_types.specs.Topologies.{TopoShape, Contents, features_lines_and_rings, object_features, objects_lines_and_rings}
use Rattle.topojson_types.specs.Transforms.{place_on}
use Rattle.topojson_types.specs.Validity.{is_full_option, IsPlace, IsFeature, IsObject, IsTopology}
use Rattle.topo_model.specs.Along.{Ways, ways_after, by_object, object_along, objects_along, large_along, AreWays}
use Rattle.topo_model.specs.Drops.{draft_cause, judged_refs, objects_drops}
use Rattle.topo_model.proofs.Along.{objects_are as objects_along_are}
use Rattle.topo_model.proofs.Drops.{judged_agree, judged_alone, protected_drops, objects_are as drops_along}
use Rattle.topo_model.specs.Parts.{contents}
use Rattle.topo_model.specs.Retaining.{StandsFor}
use Rattle.topo_model.specs.ArcUses.{AllNameArcs, NamesArcs, as_they_are, renumbered_refs}
use Rattle.topo_model.proofs.Picks.{places_retained, topology_places}

abbrev Objects : Type 0
Objects = List (List ℕ × TopoObject)

-- ---- indexes

abbrev InRange : ℕ → Bool × List ℤ → Type 0
InRange n b = AreInRange n b.1

-- what holds of the lines and rings holds of those that stay
lines_stay : (X : Bool × List ℤ → Type 0) (protects : Protection) (limit : ℕ) (arcs : List (List Point)) (os : Objects) → AllByRecursion X (objects_lines_and_rings os)
    → AllByRecursion X (objects_lines_and_rings (objects_spared protects (sparing (large_refs limit arcs)) os))
lines_stay X protects limit arcs os h =
    spared_left protects (sparing (large_refs limit arcs)) X os
    (all_weaker X (Leaves protects (sparing (large_refs limit arcs)) X) each (objects_lines_and_rings os) h)
  where
    same : (l m : List ℤ) → Some l ≡ Some m → l ≡ m
    same l m e = cc

    kept : (w : Option Cause) (l m : List ℤ) → unless w l ≡ Some m → l ≡ m
    kept None l m e = cc
    kept (Some c) l m e = absurd cc

    each : (b : Bool × List ℤ) → X b → (mark : Bool) (m : List ℤ) → sparing (large_refs limit arcs) b.0 (mark, b.1) ≡ Some m → X (b.0, m)
    each (closed, l) x true m e = subst (λ k. X (closed, k)) (same l m e) x
    each (closed, l) x false m e = subst (λ k. X (closed, k)) (kept (small_cause limit arcs closed l) l m e) x

-- each line and ring of a valid topology has an index
abbrev HasIndex : Bool × List ℤ → Type 0
HasIndex b = is_some_list b.1 ≡ true

option_full : (s : Option TopoShape) → is_full_option s ≡ true → AllByRecursion (λ b. is_some_list b.1 ≡ true) (option_lines_and_rings s)
option_full None h = tt
option_full (Some s) h = lines_and_rings_full s h

features_full : (transform : Option Transform) (fs : List TopoFeature) → AllByRecursion (IsFeature transform) fs → AllByRecursion (λ b. is_some_list b.1 ≡ true) (features_lines_and_rings fs)
features_full transform fs h = all_parts HasIndex (λ f. option_lines_and_rings f.shape) fs (all_weaker (IsFeature transform) (λ f. AllByRecursion HasIndex (option_lines_and_rings f.shape)) (λ f k. option_full f.shape k.0) fs h)

object_full : (transform : Option Transform) (o : TopoObject) → IsObject transform o → AllByRecursion (λ b. is_some_list b.1 ≡ true) (features_lines_and_rings (object_features o))
object_full transform (One f) h = features_full transform (f ∷ []) (h.0, tt)
object_full transform (Many fs) h = features_full transform fs h

objects_full : (transform : Option Transform) (os : Objects) → AllByRecursion (λ o. IsObject transform o.1) os → AllByRecursion (λ b. is_some_list b.1 ≡ true) (objects_lines_and_rings os)
objects_full transform os h =
    all_parts HasIndex (λ o. features_lines_and_rings (object_features o.1)) os
    (all_weaker (λ o. IsObject transform o.1) (λ o. AllByRecursion HasIndex (features_lines_and_rings (object_features o.1))) (λ o. object_full transform o.1) os h)

pub objects_renumbered : (renumbering : List ℤ) (u : ℕ → Bool) (os : Objects) → NewIndexesOf renumbering u → AllByRecursion (InRange (length renumbering)) (objects_lines_and_rings os) → objects_pruned (renumbered_refs renumbering) os ≡ objects_pruned (line_renumbered u) os
objects_renumbered renumbering u os are h =
    sym (objects_then as_they_are (renumbered_refs renumbering) (renumbered_refs renumbering) os (all_hold (λ b. renumbered_refs renumbering b.0 b.1 ≡ renumbered_refs renumbering b.0 b.1) (λ b. refl) (objects_lines_and_rings os)))
    ∙ objects_then as_they_are (renumbered_refs renumbering) (line_renumbered u) os
    (all_weaker (InRange (length renumbering)) (λ b. renumbered_refs renumbering b.0 b.1 ≡ line_renumbered u b.0 b.1) (λ b r. ap (λ z. Some z) (all_renumbered renumbering u b.1 are r)) (objects_lines_and_rings os) h)

-- ---- objects that are changed in place

-- what is written back to the list that was lent whole
pub put_back : (kept : Refs) (n : ℕ) (os now new : Objects) → n ≡ length os → now ≡ os → new ≡ objects_pruned kept now → take n (new ++ drop (length new) os) ≡ objects_pruned kept now
put_back kept n os now new many same is = refilled (λ o. (o.0, object_pruned kept o.1)) n os new many (is ∙ ap (objects_pruned kept) same) ∙ ap (objects_pruned kept) (sym same)

by_object_long : {B : Type 0} (make : Ways → List ℕ × TopoObject → B) (ways : Ways) (os : Objects) → length (by_object make ways os) ≡ length os
by_object_long make ways [] = refl
by_object_long make ways (o ∷ os) = ap suc (by_object_long make (ways_after ways (object_features o.1)) os)

pub along_long : (kept : MarkedRefs) (ways : Ways) (os left : Objects) → left ≡ objects_along kept ways os → length left ≡ length os
along_long kept ways os left is = ap length is ∙ by_object_long (λ ways o. (o.0, object_along kept ways o.1)) ways os

-- the same where features have ways
pub put_along : (kept : MarkedRefs) (ways : Ways) (n : ℕ) (os now new : Objects) → n ≡ length os → now ≡ os → new ≡ objects_along kept ways now → take n (new ++ drop (length new) os) ≡ objects_along kept ways now
put_along kept ways n os now new many same is =
    ap (λ m. take m (new ++ drop (length new) os)) (many ∙ ap length (sym same) ∙ sym (along_long kept ways now new is)) ∙ take-append_seam new (drop (length new) os) ∙ is

-- ---- flags

-- the flags of the arcs that objects use
pub flags_are : (os seen : Objects) (retained : List (List Point)) (n : ℕ) (used : List Bool) → seen ≡ os → n ≡ length retained → used ≡ answers (is_used seen) 0 n → used ≡ answers (is_used os) 0 (length retained)
flags_are os seen retained n used same many is = is ∙ ap (λ o. answers (is_used o) 0 n) same ∙ ap (answers (is_used os) 0) many

answers_length : {X : Type 0} (f : ℕ → X) (n count : ℕ) → length (answers f n count) ≡ count
answers_length f n zero = refl
answers_length f n (suc count) = ap (λ k. suc k) (answers_length f (suc n) count)

-- they are as many as the arcs
pub flags_long : (u : ℕ → Bool) (used flags : List Bool) (n : ℕ) → used ≡ answers u 0 n → flags ≡ used → (flags ≡ answers u 0 (length flags)) × (n ≡ length flags)
flags_long u used flags n is same = grind (arith, answers_length)

-- ---- the topology

pub parts_are : (y : Contents) (os : Objects) (arcs : List (List Point)) (transform : Option Transform) → os ≡ y.objects → arcs ≡ y.arcs → transform ≡ y.transform → contents os arcs transform ≡ y
parts_are y os arcs transform o a t = grind arith

-- ---- a topology

abbrev pub of_arcs : ℕ → List (List Point) → Rebuilding
of_arcs limit arcs = record { arcs = arcs; limit = limit }

-- where they are judged by these arcs first, if there are any
abbrev pub in_turn : Option (List (List Point)) → ℕ → List (List Point) → Judging
in_turn first limit arcs = record { first = map_some (of_arcs limit) first; later = of_arcs limit arcs }

-- what is dropped then of a shape that may be null
abbrev option_dropped : Protection → Option (List (List Point)) → ℕ → List (List Point) → Option TopoShape → List (Placed Cause)
option_dropped protects None limit arcs s = option_unprotected protects limit arcs s
option_dropped protects (Some first) limit arcs s = option_dropped_in_turn protects limit first arcs s

module _ (protects : Protection) (limit : ℕ) (arcs : List (List Point)) where
  -- a line or ring with an index is dropped only where it has too few positions
  same_cause : (arcs : List (List Point)) (b : Bool × (Bool × List ℤ)) → is_some_list b.1.1 ≡ true → cause_sparing (draft_cause (of_arcs limit arcs)) b.0 b.1 ≡ cause_sparing (small_cause limit arcs) b.0 b.1
  same_cause arcs (closed, (mark, [])) h = absurd cc
  same_cause arcs (closed, (mark, r ∷ rs)) h = refl

  shape_same : (first : Option (List (List Point))) (s : Option TopoShape) → is_full_option s ≡ true → protected_drops (in_turn first limit arcs) protects s ≡ option_dropped protects first limit arcs s
  shape_same None None h = refl
  shape_same (Some first) None h = refl
  shape_same first (Some s) h = of_judging first
    where
      way : Option (List ℕ)
      way = map_some (λ x. x.path) (protects s)

      full : AllByRecursion (λ b. is_some_list b.1.1 ≡ true) (lines_and_rings (marked s way))
      full = all_of_map (λ b. is_some_list b.1 ≡ true) without_mark (lines_and_rings (marked s way)) (subst (AllByRecursion (λ b. is_some_list b.1 ≡ true)) (sym (lines_and_rings_back s way)) (lines_and_rings_full s h))

      of_judging : (first : Option (List (List Point))) → protected_drops (in_turn first limit arcs) protects (Some s) ≡ option_dropped protects first limit arcs (Some s)
      of_judging None =
          judged_alone (of_arcs limit arcs) (marked s way)
          ∙ drop_causes_agree Point (Bool × List ℤ) (cause_sparing (draft_cause (of_arcs limit arcs))) (cause_sparing (small_cause limit arcs)) (marked s way)
          (all_weaker (λ b. is_some_list b.1.1 ≡ true) (λ b. cause_sparing (draft_cause (of_arcs limit arcs)) b.0 b.1 ≡ cause_sparing (small_cause limit arcs) b.0 b.1) (same_cause arcs) (lines_and_rings (marked s way)) full)
      of_judging (Some first) =
          judged_agree (cause_sparing (draft_cause (of_arcs limit first))) (cause_sparing (draft_cause (of_arcs limit arcs))) (cause_sparing (small_cause limit first)) (cause_sparing (small_cause limit arcs)) (marked s way)
          (all_weaker (λ b. is_some_list b.1.1 ≡ true)
          (λ b. (cause_sparing (draft_cause (of_arcs limit first)) b.0 b.1 ≡ cause_sparing (small_cause limit first) b.0 b.1) × (cause_sparing (draft_cause (of_arcs limit arcs)) b.0 b.1 ≡ cause_sparing (small_cause limit arcs) b.0 b.1))
          (λ b k. (same_cause first b k, same_cause arcs b k)) (lines_and_rings (marked s way)) full)

  features_same : (first : Option (List (List Point))) (transform : Option Transform) (fs : List TopoFeature) → AllByRecursion (IsFeature transform) fs
      → map (λ f. protected_drops (in_turn first limit arcs) protects f.shape) fs ≡ map (λ f. option_dropped protects first limit arcs f.shape) fs
  features_same first transform [] h = refl
  features_same first transform (f ∷ fs) h = rw (shape_same first f.shape h.0.0, features_same first transform fs h.1) refl

  object_same : (first : Option (List (List Point))) (transform : Option Transform) (o : TopoObject) → IsObject transform o
      → map (λ f. protected_drops (in_turn first limit arcs) protects f.shape) (object_features o) ≡ map (λ f. option_dropped protects first limit arcs f.shape) (object_features o)
  object_same first transform (One f) h = features_same first transform (f ∷ []) (h.0, tt)
  object_same first transform (Many fs) h = features_same first transform fs h

  objects_same : (first : Option (List (List Point))) (transform : Option Transform) (os : Objects) → AllByRecursion (λ o. IsObject transform o.1) os
      → map (λ o. map (λ f. protected_drops (in_turn first limit arcs) protects f.shape) (object_features o.1)) os ≡ map (λ o. map (λ f. option_dropped protects first limit arcs f.shape) (object_features o.1)) os
  objects_same first transform [] h = refl
  objects_same first transform (o ∷ os) h = rw (object_same first transform o.1 h.0, objects_same first transform os h.1) refl

module _ (protects : Protection) (kept : List (List ℕ)) (limit : ℕ) (y : Contents) (retained : List (List Point)) (is : retained ≡ retained_arcs kept y.arcs) where
  abbrev pub large : Objects
  large = objects_spared protects (sparing (large_refs limit (placed_arcs y.transform retained))) y.objects

  pub is_whole : contents large retained y.transform ≡ spared_whole protects kept limit y
  is_whole = ap (λ arcs. contents (objects_spared protects (sparing (large_refs limit (placed_arcs y.transform arcs))) y.objects) arcs y.transform) is

  pub retained_long : EachFromFirstToLast kept y.arcs → length retained ≡ length y.arcs
  retained_long through = ap length is ∙ retained_length kept y.arcs through

  -- each line and ring names arcs
  pub indexed : IsTopology y → EachFromFirstToLast kept y.arcs → AllNameArcs (length retained) large
  indexed valid through =
      lines_stay (NamesArcs (length retained)) protects limit (placed_arcs y.transform retained) y.objects
      (all_two (InRange (length retained)) (λ b. is_some_list b.1 ≡ true) (NamesArcs (length retained)) (λ b h k. (h, k)) (objects_lines_and_rings y.objects)
      (subst (λ n. AllByRecursion (InRange n) (objects_lines_and_rings y.objects)) (sym (retained_long through)) valid.ranged) (objects_full y.transform y.objects valid.objects))

  -- the cells that are retained may stand in the topology
  pub places_are : IsTopology y → AllByRecursion (λ a. AllByRecursion (IsPlace y.transform) a) retained
  places_are valid = subst (AllByRecursion (λ a. AllByRecursion (IsPlace y.transform) a)) (sym is) (places_retained y.transform kept y.arcs (topology_places y valid))

  taken_of : positions_of (keep_from (is_used large) 0 y.arcs) - positions_of (keep_from (is_used large) 0 retained) ≡ spared_removed_count protects kept limit y
  unfolding spared_removed_count spared_by trimmed
  taken_of = ap (λ (z : Contents). positions_of (keep_from (is_used z.objects) 0 y.arcs) - positions_of (keep_from (is_used z.objects) 0 z.arcs)) is_whole

  -- the positions that are removed, by how many each arc had
  pub taken_is : sum (keep_from (is_used large) 0 (map length y.arcs)) - positions_of (keep_from (is_used large) 0 retained) ≡ spared_removed_count protects kept limit y
  taken_is = ap (λ ns. sum ns - positions_of (keep_from (is_used large) 0 retained)) (sym (kept_of_map {X = List Point} length (is_used large) 0 y.arcs)) ∙ taken_of

  -- the lines and rings that are dropped
  module _ (ways : Ways) (lead : AreWays protects ways y.objects) (valid : AllByRecursion (λ o. IsObject y.transform o.1) y.objects) where
    drops_of : (first : Option (List (List Point))) → objects_drops (in_turn first limit (placed_arcs y.transform retained)) 0 ways y.objects
        ≡ dropped_of_layers 0 (map (λ o. map (λ f. option_dropped protects first limit (placed_arcs y.transform (retained_arcs kept y.arcs)) f.shape) (object_features o.1)) y.objects)
    drops_of first =
        drops_along (in_turn first limit (placed_arcs y.transform retained)) protects ways y.objects lead
        ∙ ap (dropped_of_layers 0) (objects_same protects limit (placed_arcs y.transform retained) first y.transform y.objects valid)
        ∙ ap (λ arcs. dropped_of_layers 0 (map (λ o. map (λ f. option_dropped protects first limit (placed_arcs y.transform arcs) f.shape) (object_features o.1)) y.objects)) is

    pub drops_are : objects_drops (record { first = None; later = of_arcs limit (placed_arcs y.transform retained) }) 0 ways y.objects ≡ spared_dropped protects kept limit y
    unfolding spared_dropped
    drops_are = drops_of None

    -- where they are judged by these arcs first
    pub drops_in_turn_are : (first : List (List Point)) → objects_drops (record { first = Some (of_arcs limit first); later = of_arcs limit (placed_arcs y.transform retained) }) 0 ways y.objects
        ≡ dropped_of_layers 0 (map (λ o. map (λ f. option_dropped_in_turn protects limit first (placed_arcs y.transform (retained_arcs kept y.arcs)) f.shape) (object_features o.1)) y.objects)
    drops_in_turn_are first = drops_of (Some first)

-- objects whose features have these ways stand for themselves
pub stands_for_itself : (protects : Protection) (kept : List (List ℕ)) (os now : Objects) (arcs retained : List (List Point)) (transform : Option Transform) (limit : ℕ) (ways : Ways) → AreWays protects ways os → retained ≡ retained_arcs kept arcs
    → now ≡ os → StandsFor protects kept os now arcs retained transform None limit ways
stands_for_itself protects kept os now arcs retained transform limit ways are picks same =
    record { picks = picks; large = ap (large_along limit (placed_arcs transform retained) ways) same ∙ objects_along_are protects (sparing (large_refs limit (placed_arcs transform retained))) ways os are }

-- ---- a draft

abbrev judged_along : Option Rebuilding → ℕ → List (List Point) → Ways → Objects → Objects
judged_along at_first limit arcs = objects_along (sparing (judged_refs at_first (of_arcs limit arcs)))

-- the objects are lent whole, and come back without what is small, which is a topology's
module _ (at_first : Option Rebuilding) (limit : ℕ) (ways told : Ways) (os first new second : Objects) (n : ℕ) (retained seen : List (List Point)) (transform shown : Option Transform) (many : n ≡ length os) (lent : first ≡ os) (same : seen ≡ retained) (as_shown : shown ≡ transform)
    (as_told : told ≡ ways) (left : new ≡ judged_along at_first limit (placed_arcs shown seen) told first) (again : second ≡ take n (new ++ drop (length new) os)) where
  abbrev between : Objects
  between = take n (new ++ drop (length new) os)

  abbrev kept_large : MarkedRefs
  kept_large = sparing (judged_refs at_first (of_arcs limit (placed_arcs transform retained)))

  left_is : new ≡ objects_along kept_large ways first
  left_is = left ∙ ap (λ w. judged_along at_first limit (placed_arcs shown seen) w first) as_told ∙ ap (λ t. judged_along at_first limit (placed_arcs t seen) ways first) as_shown ∙ ap (λ arcs. judged_along at_first limit (placed_arcs transform arcs) ways first) same

  pub large_left : second ≡ judged_along at_first limit (placed_arcs transform retained) ways os
  large_left = again ∙ put_along kept_large ways n os first new many lent left_is ∙ ap (objects_along kept_large ways) lent

  pub finished : (protects : Protection) (kept : List (List ℕ)) (of : Objects) (arcs stay : List (List Point)) (last : Objects) → StandsFor protects kept of os arcs retained transform at_first limit ways
      → last ≡ objects_pruned (line_renumbered (is_used second)) second → stay ≡ keep_from (is_used second) 0 retained
      → contents (take n (last ++ drop (length last) (take n (new ++ drop (length new) os)))) stay transform ≡ spared_by protects kept limit (contents of arcs transform)
  unfolding spared_by trimmed
  finished protects kept of arcs stay last stands l s =
      let many_left = many ∙ sym (along_long kept_large ways os second large_left) ∙ ap length again in
      ap (λ os. contents os stay transform) (put_back (line_renumbered (is_used second)) n between second last many_left again l) ∙ ap (λ xs. contents (objects_pruned (line_renumbered (is_used second)) second) xs transform) s
      ∙ ap (λ (os : Objects). contents (objects_pruned (line_renumbered (is_used os)) os) (keep_from (is_used os) 0 retained) transform) (large_left ∙ stands.large)
      ∙ ap trimmed (is_whole protects kept limit (contents of arcs transform) retained stands.picks)

-- ---- where the cells of arcs lie

cells_lie : (t : Transform) (cells : List Point) → AllByRecursion (IsPlace (Some t)) cells → AllByRecursion IsPosition (map (place_on t) cells)
cells_lie t [] h = tt
cells_lie t (c ∷ cells) h = (h.0.1, cells_lie t cells h.1)

some_positions : (t : Transform) (arcs : List (List Point)) → AllByRecursion (λ a. AllByRecursion (IsPlace (Some t)) a) arcs → AllByRecursion (λ a. AllByRecursion IsPosition a) (placed_arcs (Some t) arcs)
some_positions t [] h = tt
some_positions t (a ∷ arcs) h = (cells_lie t a h.0, some_positions t arcs h.1)

-- they are positions
pub are_positions : (transform : Option Transform) (arcs : List (List Point)) → AllByRecursion (λ a. AllByRecursion (IsPlace transform) a) arcs
    → AllByRecursion (λ a. AllByRecursion IsPosition a) (placed_arcs transform arcs)
are_positions None arcs h = h
are_positions (Some t) arcs h = some_positions t arcs h
