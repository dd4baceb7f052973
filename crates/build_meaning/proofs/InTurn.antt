-- What is left where small rings go first is left at once; the same rings are protected without what goes first, and they stay.
use Rattle.std.proofs.Common.{◌≡◌, ℕ, ℤ, Bool, true, false, cond, List, map, Option, None, Some, refl, sym, ap, ◌∙◌, subst}
use Rattle.build_meaning.proofs.Names.{fun_ext, Left, arc_at, dropped_in_turn, feature_spared, all_weaker, map_some, then_some, Point, Cause, placed_arcs, Contents, IsTopology, TopoFeature, EachTo, ArcsRise, RingsStay, unless, is_used, keep_from, renumbered, trimmed, all_features, Guards, left_indexes, left_arcs, left_of, guard_of, protection_of, rings_to_stay, all_indexes, Protection, protection, greatest_ring, protected_of, sparing, objects_spared, spared_by, large_refs, small_cause, retained_arcs, EachFromFirstToLast, arc_positions, HasRing, cause_in_turn, first_whole, goes_first, indexes_from_first, indexes_in_turn, left_at_first, left_in_turn, InTurnIsAtOnce, IsLeftAtOnce, SameRingsAtFirst, SameRingsStay, ShapesStayInTurn, refs_in_turn}
use Rattle.build_meaning.proofs.AtFirst.{all_reach, each_retained}
use Rattle.build_meaning.proofs.Greatest.{same_some}
use Rattle.build_meaning.proofs.LeftOf.{IsUsedBy, each_joined, each_used, each_left, feature_left, indexes_reach, refs_left, shapes_stay}
use Rattle.build_meaning.proofs.ProtectedRings.{of_protected}
use Rattle.build_meaning.proofs.Reduced.{retained_are_reduced, placed_retained}
use Rattle.build_meaning.proofs.RingsAlike.{ring_alike, rings_each}
use Rattle.build_meaning.proofs.Spared.{spared_shape}
use Rattle.build_meaning.proofs.Trimmed.{AllUsed, all_renumbered, kept_placed}
use Rattle.build_meaning.proofs.ValidSimplified.{spared_is_valid}
use Rattle.build_meaning.proofs.Spread.{spread_left}
use Rattle.build_meaning.proofs.SparedAlike.{contents_same, positions_alike, removed_same}
use Rattle.build_meaning.proofs.SparedTwice.{same_ring, spared_twice}

-- ---- at once

-- a line or ring is kept as it is
pub unchanged : (limit : ℕ) (arcs : List (List Point)) (closed : Bool) (refs m : List ℤ) → large_refs limit arcs closed refs ≡ Some m → m ≡ refs
unchanged limit arcs closed refs m e = on (small_cause limit arcs closed refs) e
  where
    on : (w : Option Cause) → unless w refs ≡ Some m → m ≡ refs
    on None k = sym (same_some refs m k)
    on (Some c) k = cc

refs_once : (limit : ℕ) (first later : List (List Point)) → (λ closed refs. then_some (large_refs limit later closed) (large_refs limit first closed refs)) ≡ refs_in_turn limit first later
refs_once limit first later = fun_ext (λ closed. fun_ext (λ refs. on closed refs (small_cause limit first closed refs)))
  where
    on : (closed : Bool) (refs : List ℤ) (w : Option Cause) → then_some (large_refs limit later closed) (unless w refs) ≡ unless (cause_in_turn None w (small_cause limit later closed refs)) refs
    on closed refs None = refl
    on closed refs (Some c) = refl

module _ (guards : Guards) (t limit : ℕ) (y : Contents) where
  abbrev whole : Contents
  whole = first_whole guards limit y

  abbrev few : Contents
  few = left_at_first guards limit y

  -- its arcs are those of the topology
  whole_is : whole ≡ record { objects = objects_spared (protection_of guards y) (sparing (large_refs limit (arc_positions y))) y.objects; arcs = y.arcs; transform = y.transform }
  whole_is = ap (λ arcs. record { objects = objects_spared (protection_of guards y) (sparing (large_refs limit (placed_arcs y.transform arcs))) y.objects; arcs = arcs; transform = y.transform }) (each_retained y.arcs)

  objects_once : (arcs : List (List Point)) → objects_spared (protection_of guards y) (sparing (refs_in_turn limit (arc_positions y) arcs)) y.objects
      ≡ objects_spared (protection_of guards whole) (sparing (large_refs limit arcs)) whole.objects
  objects_once arcs =
      ap (λ k. objects_spared (protection_of guards y) (sparing k) y.objects) (sym (refs_once limit (arc_positions y) arcs))
      ∙ sym (spared_twice guards.keep_shapes (arc_positions y) (large_refs limit (arc_positions y)) (unchanged limit (arc_positions y) true) (large_refs limit arcs) y.objects)
      ∙ sym (ap (λ z. objects_spared (protection_of guards z) (sparing (large_refs limit arcs)) z.objects) whole_is)

  abbrev used_at_first : ℕ → Bool
  used_at_first = is_used whole.objects

  abbrev kept : List (List ℕ)
  kept = left_indexes guards t few

  -- of the arcs that lines use then the same stays
  same : EachFromFirstToLast kept few.arcs → keep_from used_at_first 0 (retained_arcs (indexes_from_first guards t limit y) whole.arcs) ≡ retained_arcs kept (keep_from used_at_first 0 whole.arcs)
  unfolding trimmed
  same = subst (λ arcs. EachFromFirstToLast kept (keep_from used_at_first 0 arcs) → keep_from used_at_first 0 (retained_arcs (indexes_from_first guards t limit y) arcs) ≡ retained_arcs kept (keep_from used_at_first 0 arcs))
      (sym (each_retained y.arcs)) (spread_left used_at_first 0 kept y.arcs)

  pub is_at_once : IsLeftAtOnce guards t limit y
  unfolding left_of
  is_at_once = record {
    objects = objects_once;
    arcs = each_retained y.arcs;
    contents = λ h. contents_same guards.keep_shapes limit whole kept (indexes_from_first guards t limit y) (same h);
    removed_count = λ h. removed_same guards.keep_shapes limit whole kept (indexes_from_first guards t limit y) (same h);
  }

pub in_turn_at_once : InTurnIsAtOnce
in_turn_at_once = is_at_once

-- ---- the protected rings

module _ (guards : Guards) (limit : ℕ) (y : Contents) where
  abbrev protects : Protection
  protects = protection_of guards y

  abbrev all : List (List ℕ)
  all = map all_indexes y.arcs

  abbrev used : ℕ → Bool
  used = is_used (first_whole guards limit y).objects

  abbrev after_first : Contents
  after_first = left_at_first guards limit y

  positions_after : arc_positions after_first ≡ keep_from used 0 (arc_positions y)
  positions_after = positions_alike (first_whole guards limit y) ∙ ap (λ arcs. keep_from used 0 (placed_arcs y.transform arcs)) (each_retained y.arcs)

  -- the same ring is protected
  abbrev SameRing : TopoFeature → TopoFeature → Type 0
  SameRing after before = protected_of (protection_of guards after_first) after ≡ map_some (map (renumbered used)) (protected_of protects before)

  same_ring_of : (f : TopoFeature) → IsUsedBy protects all limit y f → SameRing (feature_left protects all limit y f) f
  same_ring_of f uses =
      ap (λ arcs. protected_of (protection guards.keep_shapes arcs) (feature_left protects all limit y f)) positions_after
      ∙ ring_alike guards.keep_shapes (λ p. p) (map (renumbered used)) (arc_positions y) (keep_from used 0 (arc_positions y)) (AllUsed used) (λ b h. all_renumbered used (arc_positions y) b.1 h)
      (spared_shape protects (refs_left protects all limit y) f.shape) uses
      ∙ ap (map_some (map (renumbered used))) (same_ring guards.keep_shapes (arc_positions y) (large_refs limit (arc_positions (first_whole guards limit y))) (unchanged limit (arc_positions (first_whole guards limit y)) true) f.shape)

  each_by : (R : TopoFeature → TopoFeature → Type 0) → ((f : TopoFeature) → IsUsedBy protects all limit y f → R (feature_left protects all limit y f) f) → EachTo R (all_features after_first) (all_features y)
  unfolding spared_by
  each_by R step = each_left protects all limit y R (all_weaker (IsUsedBy protects all limit y) (λ f. R (feature_left protects all limit y f) f) step (all_features y) (each_used protects all limit y))

  pub rings_stay : rings_to_stay guards after_first ≡ map (map (renumbered used)) (rings_to_stay guards y)
  rings_stay = rings_each (protected_of protects) (protected_of (protection_of guards after_first)) (map (renumbered used)) (all_features after_first) (all_features y) (each_by SameRing same_ring_of)

  abbrev SameBy : Bool → TopoFeature → TopoFeature → Type 0
  SameBy b after before = protected_of (protection b (arc_positions after_first)) after ≡ map_some (map (renumbered used)) (protected_of (protection b (arc_positions y)) before)

  pub same_at_first : guards.keep_shapes ≡ true → EachTo (SameBy true) (all_features after_first) (all_features y)
  same_at_first k = subst (λ b. EachTo (SameBy b) (all_features after_first) (all_features y)) k (each_by SameRing same_ring_of)

pub same_rings_at_first : SameRingsAtFirst
same_rings_at_first = same_at_first

pub same_rings_stay : SameRingsStay
same_rings_stay = rings_stay

-- ---- shapes stay

-- a ring of the same arcs
of_same : (one other left : List (List Point)) (refs more : List ℤ) (f : TopoFeature) → map (arc_at one) refs ≡ map (arc_at other) more → HasRing one left refs f → HasRing other left more f
of_same one other left refs more f e h = record {
  shape = h.shape;
  has_shape = h.has_shape;
  ring = h.ring;
  is_outer = h.is_outer;
  is_same = h.is_same ∙ e;
  is_long_ring = h.is_long_ring;
}

module _ (rise : ArcsRise) (stay : RingsStay) (no_crossings : Bool) (t limit : ℕ) (y : Contents) where
  abbrev asked : Guards
  asked = record { no_crossings = no_crossings; keep_shapes = true }

  abbrev few_of : Contents
  few_of = after_first asked limit y

  abbrev passes : ℕ → Bool
  passes = used asked limit y

  abbrev ring_in : TopoFeature → Option (List ℤ)
  ring_in = protected_of (greatest_ring (arc_positions y))

  abbrev Keeps : List (List Point) → List (List Point) → TopoFeature → TopoFeature → Type 0
  Keeps arcs left after before = (refs : List ℤ) → ring_in before ≡ Some refs → HasRing arcs left refs after

  -- which positions stay and what is left, where small rings go first (true) or not
  abbrev indexes : Bool → List (List ℕ)
  indexes b = cond b (indexes_from_first asked t limit y) (left_indexes asked t y)

  abbrev result : Bool → Left
  result b = cond b (record {
    contents = (left_of asked t limit (cond b few_of y)).contents;
    dropped = dropped_in_turn asked t limit y;
    removed_count = (left_of asked t limit (cond b few_of y)).removed_count;
  }) (left_of asked t limit y)

  abbrev AllKeep : Bool → Type 0
  AllKeep b = EachTo (Keeps (placed_arcs y.transform (retained_arcs (indexes b) y.arcs)) (arc_positions (result b).contents)) (all_features (result b).contents) (all_features y)

  -- the reduced arcs of what doesn't go first are those of all arcs that lines use
  arcs_same : IsTopology few_of → keep_from passes 0 (placed_arcs y.transform (retained_arcs (indexes true) y.arcs)) ≡ left_arcs asked t few_of
  unfolding trimmed
  arcs_same valid =
      sym (kept_placed y.transform passes (retained_arcs (indexes true) y.arcs))
      ∙ ap (placed_arcs y.transform) (sym (ap (λ arcs. keep_from passes 0 (retained_arcs (indexes true) arcs)) (each_retained y.arcs)) ∙ same asked t limit y (indexes_reach rise asked t few_of valid))
      ∙ placed_retained y.transform (left_indexes asked t few_of) few_of.arcs ∙ retained_are_reduced (guard_of asked few_of) t (arc_positions few_of)

  -- the protected ring that is left at first, by its new indexes
  abbrev Stays : TopoFeature → TopoFeature → Type 0
  Stays after before = SameRing asked limit y after before × ((refs : List ℤ) → ring_in before ≡ Some refs → AllUsed passes (true, refs))

  stays_first : (f : TopoFeature) → IsUsedBy (protects asked limit y) (all asked limit y) limit y f → Stays (feature_left (protects asked limit y) (all asked limit y) limit y f) f
  stays_first f uses = (
    same_ring_of asked limit y f uses,
    λ refs e. of_protected (AllUsed passes) (arc_positions y) (feature_spared (protects asked limit y) (refs_left (protects asked limit y) (all asked limit y) limit y) f) uses refs
        (same_ring true (arc_positions y) (large_refs limit (arc_positions (first_whole asked limit y))) (unchanged limit (arc_positions (first_whole asked limit y)) true) f.shape ∙ e),
  )

  keep_few : IsTopology few_of → AllKeep true
  keep_few valid =
      let left : Contents = (left_of asked t limit few_of).contents in
      let more : List (List Point) = placed_arcs y.transform (retained_arcs (indexes true) y.arcs) in
      each_joined (λ after before. (refs : List ℤ) → protected_of (greatest_ring (arc_positions few_of)) before ≡ Some refs → HasRing (left_arcs asked t few_of) (arc_positions left) refs after) Stays (Keeps more (arc_positions left))
      (λ after between before h k refs e. of_same (left_arcs asked t few_of) more (arc_positions left) (map (renumbered passes) refs) refs after
      (ap (λ arcs. map (arc_at arcs) (map (renumbered passes) refs)) (sym (arcs_same valid)) ∙ all_renumbered passes more refs (k.1 refs e))
      (h (map (renumbered passes) refs) (k.0 ∙ ap (map_some (map (renumbered passes))) e)))
      (all_features left) (all_features few_of) (all_features y) (shapes_stay stay asked t limit few_of refl) (each_by asked limit y Stays stays_first)

  keep_all : AllKeep false
  keep_all =
      subst (λ arcs. EachTo (Keeps arcs (arc_positions (left_of asked t limit y).contents)) (all_features (left_of asked t limit y).contents) (all_features y))
      (sym (placed_retained y.transform (left_indexes asked t y) y.arcs ∙ retained_are_reduced (guard_of asked y) t (arc_positions y))) (shapes_stay stay asked t limit y refl)

  few_valid : IsTopology y → IsTopology few_of
  unfolding spared_by
  few_valid h = spared_is_valid (protects asked limit y) (all asked limit y) limit y h (all_reach y h)

  keep_in_turn : IsTopology y → AllKeep (goes_first asked limit)
  keep_in_turn h = on (goes_first asked limit)
    where
      on : (b : Bool) → AllKeep b
      on true = keep_few (few_valid h)
      on false = keep_all

abbrev KeepsInTurn : Guards → ℕ → ℕ → Contents → Type 0
KeepsInTurn guards t limit y =
    EachTo (λ after before. (refs : List ℤ) → protected_of (greatest_ring (arc_positions y)) before ≡ Some refs
    → HasRing (placed_arcs y.transform (retained_arcs (indexes_in_turn guards t limit y) y.arcs)) (arc_positions (left_in_turn guards t limit y).contents) refs after)
    (all_features (left_in_turn guards t limit y).contents) (all_features y)

pub shapes_stay_in_turn : ArcsRise → RingsStay → ShapesStayInTurn
shapes_stay_in_turn rise stay guards t limit y e h =
    subst (λ b. KeepsInTurn (record { no_crossings = guards.no_crossings; keep_shapes = b }) t limit y) (sym e) (keep_in_turn rise stay guards.no_crossings t limit y h)
