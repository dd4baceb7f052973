-- What is left of a topology: where no ring is protected, where nothing is asked for, which arcs are left, and that each protected ring is.
use Rattle.std.proofs.Common.{arith, ◌≡◌, ℕ, ◌-◌, ◌≤◌, ℤ, Bool, true, not, List, [], ◌∷◌, map, length, Option, None, Some, inl, refl, sym, ap, ◌∙◌, subst, false}
use Rattle.build_meaning.proofs.Names.{fun_ext, parts_all, map-map, AllByRecursion, all_of_map, all_two, all_weaker, each_of, in_right, composed, dropped_of_layers, arc_at, stitched, joined, map_some, then_some, with_some, some_of, In, Placed, Point, prune, option_lines_and_rings, clean, is_short, placed_arcs, TopoShape, Contents, object_features, objects_lines_and_rings, TopoFeature, TopoObject, Sublist, reduce_arcs, reduced_arcs, is_long, guarded_by, ArcsRise, CrossingsNeverRise, FewerArcsLaw, NoneStaysNone, RingsStay, EachTo, positions_of, is_used, keep_from, renumbered, line_renumbered, feature_renumbered, trimmed, all_features, arc_positions, crossings_of, outer_rings, marked, Protection, no_protection, greatest_ring, protected_of, protected_rings, cause_sparing, sparing, MarkedRefs, shape_marked, feature_spared, spared_whole, spared_by, option_unprotected, spared_dropped, spared_removed_count, UnprotectedIsSimplified, HasRing, KeepsRings, ShapesStay, small_cause, large_refs, option_small, retained_arcs, simplified_by, dropped_by, removed_count_by, EachFromFirstToLast, IsArc, all_map, all_parts, Cause, IndexesReach, UnguardedIndexLaw, Guards, LeftArcsAreReduced, LeftCrossingsNeverRise, LeftIndexesReach, LeftIsValid, LeftKeeps, LeftNoneStaysNone, Transform, UnguardedIsSimplified, guard_of, left_arcs, left_indexes, left_of, no_guards, place_on, placed_cells, protection_of, reduce, reduced_indexes, rings_to_stay}
use Rattle.guarded_meaning.specs.Arcs.{crossings}
use Rattle.topojson_types.specs.Topologies.{features_lines_and_rings}
use Rattle.build_meaning.proofs.Again.{all_hold}
use Rattle.build_meaning.proofs.Greatest.{same_some, greatest_is}
use Rattle.build_meaning.proofs.GreatestLeft.{rings_within}
use Rattle.build_meaning.proofs.Reduced.{retained_are_reduced, placed_retained, placed_through, sub_left}
use Rattle.build_meaning.proofs.Left.{spared_keeps}
use Rattle.build_meaning.proofs.Marks.{causes_plain}
use Rattle.build_meaning.proofs.Reshaped.{pruned_shape, features_with}
use Rattle.build_meaning.proofs.RingKept.{ring_kept}
use Rattle.build_meaning.proofs.Spared.{spared_shape, whole_plain}
use Rattle.build_meaning.proofs.Trimmed.{AllUsed, all_renumbered, all_used, kept_placed}
use Rattle.build_meaning.proofs.ValidSimplified.{spared_is_valid}

-- ---- where no ring is protected

option_plain : (limit : ℕ) (arcs : List (List Point)) (s : Option TopoShape) → option_unprotected no_protection limit arcs s ≡ option_small limit arcs s
option_plain limit arcs None = refl
option_plain limit arcs (Some s) = causes_plain (cause_sparing (small_cause limit arcs)) s

pub unprotected_is_simplified : UnprotectedIsSimplified
unfolding spared_by spared_dropped spared_removed_count simplified_by dropped_by removed_count_by
unprotected_is_simplified kept limit y = record {
  contents = ap trimmed (whole_plain kept limit y);
  dropped = ap (λ (small : Option TopoShape → List (Placed Cause)). dropped_of_layers 0 (map (λ o. map (λ f. small f.shape) (object_features o.1)) y.objects)) (fun_ext (option_plain limit (placed_arcs y.transform (retained_arcs kept y.arcs))));
  removed_count = ap (λ z. positions_of (keep_from (is_used z.objects) 0 y.arcs) - positions_of (trimmed z).arcs) (whole_plain kept limit y);
}

pub no_rings : (fs : List TopoFeature) → some_of (protected_of no_protection) fs ≡ []
no_rings [] = refl
no_rings (f ∷ fs) = one f.shape ∙ no_rings fs
  where
    one : (s : Option TopoShape) → with_some (map_some (λ x. x.part) (then_some no_protection s)) (some_of (protected_of no_protection) fs) ≡ some_of (protected_of no_protection) fs
    one None = refl
    one (Some s) = refl

-- ---- without a guard

each_by_itself : (t : ℕ) (transform : Option Transform) (arcs : List (List Point)) → map (reduce t) (placed_arcs transform arcs) ≡ map (λ cells. reduce t (placed_cells transform cells)) arcs
each_by_itself t None arcs = refl
each_by_itself t (Some u) [] = refl
each_by_itself t (Some u) (a ∷ arcs) = ap (λ more. reduce t (map (place_on u) a) ∷ more) (each_by_itself t (Some u) arcs)

pub unguarded_indexes : UnguardedIndexLaw → (t : ℕ) (y : Contents) → left_indexes no_guards t y ≡ reduced_indexes t y
unguarded_indexes law t y =
    ap (λ rings. reduce_arcs (guarded_by false rings) t (arc_positions y)) (no_rings (all_features y)) ∙ law t (arc_positions y) ∙ each_by_itself t y.transform y.arcs

pub unguarded_is_simplified : UnguardedIndexLaw → UnguardedIsSimplified
unfolding left_of
unguarded_is_simplified law t limit y =
    let same = unguarded_indexes law t y in
    let alike = unprotected_is_simplified (reduced_indexes t y) limit y in
    record {
      contents = ap (λ kept. spared_by no_protection kept limit y) same ∙ alike.contents;
      dropped = ap (λ kept. spared_dropped no_protection kept limit y) same ∙ alike.dropped;
      removed_count = ap (λ kept. spared_removed_count no_protection kept limit y) same ∙ alike.removed_count;
    }

-- ---- what stays

pub indexes_reach : ArcsRise → LeftIndexesReach
indexes_reach rise guards t y h =
    placed_through y.transform (left_indexes guards t y) y.arcs (rise (guard_of guards y) t (arc_positions y)) (all_weaker (IsArc y.transform) (λ a. 2 ≤ length a) (λ a k. k.0) y.arcs h.arcs)

pub reduced_indexes_reach : UnguardedIndexLaw → ArcsRise → IndexesReach
reduced_indexes_reach law rise t y h = subst (λ kept. EachFromFirstToLast kept y.arcs) (unguarded_indexes law t y) (indexes_reach rise no_guards t y h)

pub is_valid : ArcsRise → LeftIsValid
unfolding left_of
is_valid rise guards t limit y h = spared_is_valid (protection_of guards y) (left_indexes guards t y) limit y h (indexes_reach rise guards t y h)

pub keeps_labels : LeftKeeps
unfolding left_of
keeps_labels guards t limit y = spared_keeps (protection_of guards y) (left_indexes guards t y) limit y

-- ---- which arcs are left

pub arcs_are_reduced : LeftArcsAreReduced
unfolding left_of spared_by trimmed
arcs_are_reduced guards t limit y =
    let kept : List (List ℕ) = left_indexes guards t y in
    let passes : ℕ → Bool = is_used (spared_whole (protection_of guards y) kept limit y).objects in
    kept_placed y.transform passes (retained_arcs kept y.arcs) ∙ ap (keep_from passes 0) (placed_retained y.transform kept y.arcs ∙ retained_are_reduced (guard_of guards y) t (arc_positions y))

-- ---- no crossings

module _ (fewer : FewerArcsLaw) (guards : Guards) (t limit : ℕ) (y : Contents) where
  fewer_left : crossings_of (left_of guards t limit y).contents ≤ crossings (left_arcs guards t y)
  fewer_left =
      fewer (arc_positions (left_of guards t limit y).contents) (left_arcs guards t y)
      (subst (λ arcs. Sublist arcs (left_arcs guards t y)) (sym (arcs_are_reduced guards t limit y))
      (sub_left (is_used (spared_whole (protection_of guards y) (left_indexes guards t y) limit y).objects) 0 (left_arcs guards t y)))

  -- the arcs reduced where crossings may be made or not
  abbrev reduced_by : Bool → List (List Point)
  reduced_by no_crossings = reduced_arcs (guarded_by no_crossings (rings_to_stay guards y)) t (arc_positions y)

pub crossings_never_rise : CrossingsNeverRise → FewerArcsLaw → LeftCrossingsNeverRise
crossings_never_rise never fewer guards t limit y e =
    omega (arith, fewer_left fewer guards t limit y, subst (λ b. crossings (reduced_by fewer guards t limit y b) ≤ crossings_of y) (sym e) (never (rings_to_stay guards y) t (arc_positions y)))

pub none_stays_none : NoneStaysNone → FewerArcsLaw → LeftNoneStaysNone
none_stays_none stays fewer guards t limit y e h =
    omega (arith, fewer_left fewer guards t limit y, subst (λ b. crossings (reduced_by fewer guards t limit y b) ≡ 0) (sym e) (stays (rings_to_stay guards y) t (arc_positions y) h))

-- ---- shapes stay

-- what holds of what is given for some elements
pub all_given : {A B : Type 0} (Y : B → Type 0) (g : A → Option B) (xs : List A) → AllByRecursion (λ x. (b : B) → g x ≡ Some b → Y b) xs → AllByRecursion Y (some_of g xs)
all_given Y g [] h = tt
all_given {B = B} Y g (x ∷ xs) h = on (g x) refl (all_given Y g xs h.1)
  where
    on : (o : Option B) → g x ≡ o → AllByRecursion Y (some_of g xs) → AllByRecursion Y (with_some o (some_of g xs))
    on None e k = k
    on (Some b) e k = (h.0 b e, k)

all_giving : {A B : Type 0} (Y : B → Type 0) (g : A → Option B) (xs : List A) → AllByRecursion Y (some_of g xs) → AllByRecursion (λ x. (b : B) → g x ≡ Some b → Y b) xs
all_giving Y g [] h = tt
all_giving {B = B} Y g (x ∷ xs) h = on (g x) refl h (all_giving Y g xs)
  where
    on : (o : Option B) → g x ≡ o → AllByRecursion Y (with_some o (some_of g xs)) → (AllByRecursion Y (some_of g xs) → AllByRecursion (λ x. (b : B) → g x ≡ Some b → Y b) xs)
        → AllByRecursion (λ x. (b : B) → g x ≡ Some b → Y b) (x ∷ xs)
    on None e k f = ((λ b d. let z : None ≡ Some b = sym e ∙ d in cc), f k)
    on (Some c) e k f = ((λ b d. subst Y (same_some c b (sym e ∙ d)) k.0), f k.1)

pub each_to_made : {A B : Type 0} (R : B → A → Type 0) (g : A → B) (xs : List A) → AllByRecursion (λ x. R (g x) x) xs → EachTo R (map g xs) xs
each_to_made R g [] h = tt
each_to_made R g (x ∷ xs) h = (h.0, each_to_made R g xs h.1)

-- one relation after another
pub each_joined : {A B C : Type 0} (R : C → B → Type 0) (S : B → A → Type 0) (Q : C → A → Type 0) → ((c : C) (b : B) (a : A) → R c b → S b a → Q c a) → (zs : List C) (ys : List B) (xs : List A)
    → EachTo R zs ys → EachTo S ys xs → EachTo Q zs xs
each_joined R S Q f [] [] [] h k = tt
each_joined R S Q f [] [] (x ∷ xs) h k = absurd k
each_joined R S Q f [] (y ∷ ys) xs h k = absurd h
each_joined R S Q f (z ∷ zs) [] xs h k = absurd h
each_joined R S Q f (z ∷ zs) (y ∷ ys) [] h k = absurd k
each_joined R S Q f (z ∷ zs) (y ∷ ys) (x ∷ xs) h k = (f z y x h.0 k.0, each_joined R S Q f zs ys xs h.1 k.1)

-- ---- features of objects

module _ (X : Bool × List ℤ → Type 0) where
  abbrev pub OfFeature : TopoFeature → Type 0
  OfFeature f = AllByRecursion X (option_lines_and_rings f.shape)

  pub each_of_objects : (os : List (List ℕ × TopoObject)) → AllByRecursion X (objects_lines_and_rings os) → AllByRecursion OfFeature (joined (map (λ o. object_features o.1) os))
  each_of_objects os h =
      all_parts OfFeature (λ (o : List ℕ × TopoObject). object_features o.1) os
      (all_weaker (λ o. AllByRecursion X (features_lines_and_rings (object_features o.1))) (λ o. AllByRecursion OfFeature (object_features o.1))
      (λ o k. parts_all X (λ (f : TopoFeature). option_lines_and_rings f.shape) (object_features o.1) k) os (parts_all X (λ (o : List ℕ × TopoObject). features_lines_and_rings (object_features o.1)) os h))

-- ---- shapes stay

-- the shape of a feature that has a protected ring, and the way to its polygon
pub record Protects (protects : Protection) (o : Option TopoShape) (refs : List ℤ) : Type 0 where
  pub shape : TopoShape
  pub has_shape : o ≡ Some shape
  pub ring : Placed (List ℤ)
  pub is_ring : protects shape ≡ Some ring
  pub refs_are : ring.part ≡ refs

pub protected_parts : (protects : Protection) (o : Option TopoShape) (refs : List ℤ) → map_some (λ x. x.part) (then_some protects o) ≡ Some refs → Protects protects o refs
protected_parts protects None refs h = cc
protected_parts protects (Some s) refs h = on (protects s) refl h
  where
    on : (r : Option (Placed (List ℤ))) → protects s ≡ r → map_some (λ x. x.part) r ≡ Some refs → Protects protects (Some s) refs
    on None e k = cc
    on (Some x) e k = record { shape = s; has_shape = refl; ring = x; is_ring = e; refs_are = same_some x.part refs k }

is_long_ring : (arcs : List (List Point)) (f : TopoFeature) (refs : List ℤ) → protected_of (greatest_ring arcs) f ≡ Some refs → is_long arcs refs ≡ true
is_long_ring arcs f refs e =
    let p : Protects (greatest_ring arcs) f.shape refs = protected_parts (greatest_ring arcs) f.shape refs e in
    subst (λ rs. is_long arcs rs ≡ true) p.refs_are (greatest_is arcs p.shape p.ring p.is_ring).long

pub are_long : (arcs : List (List Point)) (os : List (List ℕ × TopoObject)) → AllByRecursion (λ refs. is_long arcs refs ≡ true) (protected_rings (greatest_ring arcs) os)
are_long arcs os =
    let features : List TopoFeature = joined (map (λ o. object_features o.1) os) in
    all_given (λ refs. is_long arcs refs ≡ true) (protected_of (greatest_ring arcs)) features
    (all_hold (λ f. (refs : List ℤ) → protected_of (greatest_ring arcs) f ≡ Some refs → is_long arcs refs ≡ true) (is_long_ring arcs) features)

-- the features of what is left of a topology are those of the topology, each without the lines and rings that are dropped
module _ (protects : Protection) (kept : List (List ℕ)) (limit : ℕ) (y : Contents) where
  abbrev pub refs_left : MarkedRefs
  refs_left = sparing (large_refs limit (placed_arcs y.transform (retained_arcs kept y.arcs)))

  abbrev pub arcs_used : ℕ → Bool
  arcs_used = is_used (spared_whole protects kept limit y).objects

  -- the arcs of what is left of a feature are used
  abbrev pub IsUsedBy : TopoFeature → Type 0
  IsUsedBy f = AllByRecursion (AllUsed arcs_used) (option_lines_and_rings (feature_spared protects refs_left f).shape)

  pub each_used : AllByRecursion IsUsedBy (all_features y)
  each_used =
      all_of_map (OfFeature (AllUsed arcs_used)) (feature_spared protects refs_left) (all_features y)
      (subst (AllByRecursion (OfFeature (AllUsed arcs_used))) (features_with (spared_shape protects refs_left) y.objects)
      (each_of_objects (AllUsed arcs_used) (spared_whole protects kept limit y).objects (all_used (spared_whole protects kept limit y).objects)))

  abbrev pub feature_left : TopoFeature → TopoFeature
  feature_left f = feature_renumbered arcs_used (feature_spared protects refs_left f)

  features_left : all_features (spared_by protects kept limit y) ≡ map feature_left (all_features y)
  unfolding spared_by trimmed
  features_left =
      features_with (pruned_shape (λ p. p) (line_renumbered arcs_used)) (spared_whole protects kept limit y).objects
      ∙ ap (map (feature_renumbered arcs_used)) (features_with (spared_shape protects refs_left) y.objects)
      ∙ map-map (feature_renumbered arcs_used) (feature_spared protects refs_left) (all_features y)

  -- what relates each to its feature of the topology
  pub each_left : (R : TopoFeature → TopoFeature → Type 0) → AllByRecursion (λ f. R (feature_left f) f) (all_features y) → EachTo R (all_features (spared_by protects kept limit y)) (all_features y)
  each_left R h = subst (λ fs. EachTo R fs (all_features y)) (sym features_left) (each_to_made R feature_left (all_features y) h)

module _ (stay : RingsStay) (no_crossings : Bool) (t limit : ℕ) (y : Contents) where
  abbrev guards : Guards
  guards = record { no_crossings = no_crossings; keep_shapes = true }

  abbrev protects : Protection
  protects = greatest_ring (arc_positions y)

  abbrev kept : List (List ℕ)
  kept = left_indexes guards t y

  abbrev spared : MarkedRefs
  spared = refs_left protects kept limit y

  abbrev used : ℕ → Bool
  used = arcs_used protects kept limit y

  abbrev all : List (List Point)
  all = left_arcs guards t y

  abbrev left : List (List Point)
  left = arc_positions (left_of guards t limit y).contents

  abbrev features : List TopoFeature
  features = all_features y

  -- the protected ring of a feature has the property
  abbrev OfRing : (List ℤ → Type 0) → TopoFeature → Type 0
  OfRing Y f = (refs : List ℤ) → protected_of protects f ≡ Some refs → Y refs

  abbrev LongIn : List (List Point) → List ℤ → Type 0
  LongIn arcs refs = is_long arcs refs ≡ true

  long_still : AllByRecursion (OfRing (LongIn all)) features
  long_still = all_giving (LongIn all) (protected_of protects) features (stay no_crossings (protected_rings protects y.objects) t (arc_positions y) (are_long (arc_positions y) y.objects))

  abbrev both : MarkedRefs
  both closed l = then_some (line_renumbered used closed) (spared closed l)

  abbrev what_is_left : TopoFeature → TopoFeature
  what_is_left = feature_left protects kept limit y

  ring_of_feature : (f : TopoFeature) → OfRing (LongIn all) f → IsUsedBy protects kept limit y f → OfRing (λ refs. HasRing all left refs (what_is_left f)) f
  ring_of_feature f long uses refs h =
      let p : Protects protects f.shape refs = protected_parts protects f.shape refs h in
      let x : Placed (List ℤ) = p.ring in
      let g = greatest_is (arc_positions y) p.shape x p.is_ring in
      let among : In x (outer_rings p.shape) = subst (In x) (sym g.outer) (in_right x g.before (x ∷ g.after) (inl refl)) in
      let first = ring_kept (λ (c : Point). c) spared (λ l. l) (λ l. refl) p.shape x among in
      let second = ring_kept (λ (c : Point). c) both (map (renumbered used)) (λ l. refl) p.shape x among in
      let way : shape_marked protects p.shape ≡ marked p.shape (Some x.path) = ap (λ r. marked p.shape (map_some (λ z. z.path) r)) p.is_ring in
      let is_first : (feature_spared protects spared f).shape ≡ Some first.shape =
      ap (then_some (λ s. prune (λ c. c) spared (shape_marked protects s))) p.has_shape ∙ ap (prune (λ c. c) spared) way ∙ first.is_left in
      let is_second : (what_is_left f).shape ≡ Some second.shape =
      ap (λ o. then_some (prune (λ c. c) (line_renumbered used)) (then_some (λ s. prune (λ c. c) spared (shape_marked protects s)) o)) p.has_shape
      ∙ ap (λ m. then_some (prune (λ c. c) (line_renumbered used)) (prune (λ c. c) spared m)) way
      ∙ composed (λ (c : Point). c) (λ c. c) spared (line_renumbered used) (marked p.shape (Some x.path)) ∙ second.is_left in
      let rings = rings_within (AllUsed used) first.shape (subst (λ o. AllByRecursion (AllUsed used) (option_lines_and_rings o)) is_first uses) in
      let all_are : AllUsed used (true, x.part) = each_of (λ l. AllUsed used (true, l)) (map (λ z. z.part) (outer_rings first.shape)) x.part (all_map (λ l. AllUsed used (true, l)) (λ z. z.part) (outer_rings first.shape) rings) first.outer in
      let same : map (arc_at left) (map (renumbered used) x.part) ≡ map (arc_at all) x.part =
      ap (λ arcs. map (arc_at arcs) (map (renumbered used) x.part)) (arcs_are_reduced guards t limit y) ∙ all_renumbered used all x.part all_are in
      record {
        shape = second.shape;
        has_shape = is_second;
        ring = map (renumbered used) x.part;
        is_outer = second.outer;
        is_same = same ∙ ap (map (arc_at all)) p.refs_are;
        is_long_ring = ap (λ pss. not (is_short true (clean (stitched pss)))) (same ∙ ap (map (arc_at all)) p.refs_are) ∙ long refs h;
      }

  abbrev KeepsRing : TopoFeature → TopoFeature → Type 0
  KeepsRing after before = OfRing (λ refs. HasRing all left refs after) before

  pub each_keeps : EachTo KeepsRing (all_features (left_of (record { no_crossings = no_crossings; keep_shapes = true }) t limit y).contents) (all_features y)
  unfolding left_of
  each_keeps =
      each_left protects kept limit y KeepsRing
      (all_two (OfRing (LongIn all)) (IsUsedBy protects kept limit y) (λ f. KeepsRing (what_is_left f) f) ring_of_feature features long_still (each_used protects kept limit y))

pub shapes_stay : RingsStay → ShapesStay
shapes_stay stay guards t limit y e = subst (λ b. KeepsRings (record { no_crossings = guards.no_crossings; keep_shapes = b }) t limit y) (sym e) (each_keeps stay guards.no_crossings t limit y)
