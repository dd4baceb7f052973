-- The protected rings of a topology, and what is left where they are, before arcs are left out or cells are put in place of positions and
-- after.
use Rattle.std.proofs.Common.{◌≡◌, ℕ, ℤ, Bool, true, not, ◌&&◌, List, [], ◌∷◌, map, Option, None, Some, refl, sym, ap, ◌∙◌, subst, map-id}
use Rattle.build_meaning.proofs.Names.{arc_at, AllByRecursion, all_of_map, all_weaker, agreed, composed, twice_ring_area, stitched, map_some, then_some, with_some, some_of, Placed, Point, prune, lines_and_rings, option_lines_and_rings, Geometry, clean, is_short, TopoShape, objects_lines_and_rings, is_long, objects_celled, marked, enclosed, protection, protected_of, protected_rings, MarkedRefs, objects_spared, Refs, EachTo}
use Rattle.build_meaning.proofs.Again.{all_hold}
use Rattle.build_meaning.proofs.Greatest.{same_some}
use Rattle.build_meaning.proofs.GreatestLeft.{protection_is, way_of, ring_in, RingAgrees, ring_left, spared_left}
use Rattle.build_meaning.proofs.Marks.{without_mark, lines_and_rings_back}
use Rattle.build_meaning.proofs.LeftOf.{each_of_objects, each_to_made}
use Rattle.build_meaning.proofs.Reshaped.{Objects, features_of, feature_with, objects_with, pruned_shape, features_with, objects_alike, objects_twice}
use Rattle.build_meaning.proofs.ShapesLeft.{keeping_mark}
use Rattle.build_meaning.proofs.Spared.{spared_shape}

pub as_it_is : {X : Type 0} (o : Option X) → map_some (λ x. x) o ≡ o
as_it_is None = refl
as_it_is (Some x) = refl

-- what holds of the lines and rings of a shape holds of those of the marked shape
pub all_marked : {P L : Type 0} (X : Bool × L → Type 0) (s : Geometry P L L) (way : Option (List ℕ)) → AllByRecursion X (lines_and_rings s) → AllByRecursion (λ b. X (without_mark b)) (lines_and_rings (marked s way))
all_marked X s way h = all_of_map X without_mark (lines_and_rings (marked s way)) (subst (AllByRecursion X) (sym (lines_and_rings_back s way)) h)

-- where each is made of what is given for its fellow, the list is made of theirs
pub rings_each : {F G X Y : Type 0} (of : F → Option X) (of_made : G → Option Y) (make : X → Y) (gs : List G) (fs : List F) → EachTo (λ g f. of_made g ≡ map_some make (of f)) gs fs
    → some_of of_made gs ≡ map make (some_of of fs)
rings_each of of_made make [] [] h = refl
rings_each of of_made make [] (f ∷ fs) h = absurd h
rings_each of of_made make (g ∷ gs) [] h = absurd h
rings_each {X} {Y} of of_made make (g ∷ gs) (f ∷ fs) h = ap (λ o. with_some o (some_of of_made gs)) h.0 ∙ on (of f) (rings_each of of_made make gs fs h.1)
  where
    on : (o : Option X) → some_of of_made gs ≡ map make (some_of of fs) → with_some (map_some make o) (some_of of_made gs) ≡ map make (with_some o (some_of of fs))
    on None e = e
    on (Some x) e = ap (λ ys. make x ∷ ys) e

-- what is given for features that are replaced is made of what is given for them
pub rings_made : {F G X Y : Type 0} (of : F → Option X) (of_made : G → Option Y) (make : X → Y) (h : F → G) (fs : List F) → AllByRecursion (λ f. of_made (h f) ≡ map_some make (of f)) fs
    → some_of of_made (map h fs) ≡ map make (some_of of fs)
rings_made of of_made make h fs all = rings_each of of_made make (map h fs) fs (each_to_made (λ g f. of_made g ≡ map_some make (of f)) h fs all)

-- ---- where lines get other indexes, which name the same among other arcs

module _ (keep_shapes : Bool) (place : Point → Point) (f : List ℤ → List ℤ) (arcs arcs_after : List (List Point)) (X : Bool × List ℤ → Type 0)
    (same : (b : Bool × List ℤ) → X b → map (arc_at arcs_after) (f b.1) ≡ map (arc_at arcs) b.1) where
  abbrev given : Refs
  given closed refs = Some (f refs)

  abbrev turned : Option TopoShape → Option TopoShape
  turned = pruned_shape place given

  abbrev size : List ℤ → ℕ
  size refs = enclosed arcs refs

  abbrev long : List ℤ → Bool
  long refs = keep_shapes && is_long arcs refs

  abbrev size_after : List ℤ → ℕ
  size_after refs = enclosed arcs_after refs

  abbrev long_after : List ℤ → Bool
  long_after refs = keep_shapes && is_long arcs_after refs

  -- the ring is as great by its new indexes
  ring_agrees : (b : Bool × List ℤ) → X b → RingAgrees place given size long size_after long_after b
  ring_agrees b h c = record {
    same_size = λ m k. ap size_after (sym (same_some (f b.1) m k)) ∙ ap (λ pss. twice_ring_area (stitched pss)) (same b h);
    same_test = λ m k. ap long_after (sym (same_some (f b.1) m k)) ∙ ap (λ pss. keep_shapes && not (is_short true (clean (stitched pss)))) (same b h);
    left_out_fails = λ k. cc;
  }

  all_agree : (s : TopoShape) → AllByRecursion X (lines_and_rings s) → AllByRecursion (RingAgrees place given size long size_after long_after) (lines_and_rings s)
  all_agree s h = all_weaker X (RingAgrees place given size long size_after long_after) ring_agrees (lines_and_rings s) h

  -- ---- protected rings

  pub ring_alike : (s : Option TopoShape) → AllByRecursion X (option_lines_and_rings s)
      → map_some (λ x. x.part) (then_some (protection keep_shapes arcs_after) (then_some (prune place (λ closed refs. Some (f refs))) s)) ≡ map_some f (map_some (λ x. x.part) (then_some (protection keep_shapes arcs) s))
  ring_alike None h = refl
  ring_alike (Some s) h =
      ap (λ p. map_some (λ x. x.part) (then_some p (prune place given s))) (protection_is keep_shapes arcs_after)
      ∙ ring_left place given size long size_after long_after s (all_agree s h) f (λ l m k. sym (same_some (f l) m k)) ∙ on (ring_in place given size long size_after long_after s)
      ∙ ap (λ p. map_some f (map_some (λ x. x.part) (p s))) (sym (protection_is keep_shapes arcs))
    where
      on : (o : Option (Placed (List ℤ))) → map_some (λ x. f x.part) o ≡ map_some f (map_some (λ x. x.part) o)
      on None = refl
      on (Some x) = refl

  pub rings_alike : (os : Objects) → AllByRecursion X (objects_lines_and_rings os)
      → protected_rings (protection keep_shapes arcs_after) (objects_with (pruned_shape place (λ closed refs. Some (f refs))) os) ≡ map f (protected_rings (protection keep_shapes arcs) os)
  rings_alike os h =
      ap (some_of (protected_of (protection keep_shapes arcs_after))) (features_with turned os)
      ∙ rings_made (protected_of (protection keep_shapes arcs)) (protected_of (protection keep_shapes arcs_after)) f (feature_with turned) (features_of os)
      (all_weaker (λ t. AllByRecursion X (option_lines_and_rings t.shape)) (λ t. protected_of (protection keep_shapes arcs_after) (feature_with turned t) ≡ map_some f (protected_of (protection keep_shapes arcs) t))
      (λ t k. ring_alike t.shape k) (features_of os) (each_of_objects X os h))

  -- ---- what is left

  -- what is left of a line or ring by its new indexes is what is left of it, by its new indexes
  module _ (left left_after : MarkedRefs) (turns : (b : Bool × List ℤ) → X b → (mark : Bool) → left_after b.0 (mark, f b.1) ≡ then_some (λ refs. Some (f refs)) (left b.0 (mark, b.1))) where
    shape_alike : (s : Option TopoShape) → AllByRecursion X (option_lines_and_rings s) → spared_shape (protection keep_shapes arcs_after) left_after (turned s) ≡ turned (spared_shape (protection keep_shapes arcs) left s)
    shape_alike None h = refl
    shape_alike (Some s) h =
        let way : Option (List ℕ) = way_of (ring_in place given size long size_after long_after s) in
        ap (λ p. spared_shape p left_after (turned (Some s))) (protection_is keep_shapes arcs_after)
        ∙ spared_left place given size long size_after long_after s (all_agree s h) (λ p. p) left_after
        ∙ agreed place (λ closed l. then_some (left_after closed) (keeping_mark given closed l)) (λ closed l. then_some (given closed) (left closed l)) (marked s way)
        (all_weaker (λ b. X (without_mark b)) (λ b. left_after b.0 (b.1.0, f b.1.1) ≡ then_some (given b.0) (left b.0 b.1)) (λ b k. turns (without_mark b) k b.1.0)
        (lines_and_rings (marked s way)) (all_marked X s way h))
        ∙ sym (composed (λ (p : Point). p) place left given (marked s way)) ∙ ap (λ p. turned (spared_shape p left (Some s))) (sym (protection_is keep_shapes arcs))

    pub objects_turned : (os : Objects) → AllByRecursion X (objects_lines_and_rings os)
        → objects_spared (protection keep_shapes arcs_after) left_after (objects_with (pruned_shape place (λ closed refs. Some (f refs))) os)
        ≡ objects_with (pruned_shape place (λ closed refs. Some (f refs))) (objects_spared (protection keep_shapes arcs) left os)
    objects_turned os h =
        objects_twice (spared_shape (protection keep_shapes arcs_after) left_after) turned os
        ∙ objects_alike X option_lines_and_rings (λ s. spared_shape (protection keep_shapes arcs_after) left_after (turned s)) (λ s. turned (spared_shape (protection keep_shapes arcs) left s)) shape_alike os h
        ∙ sym (objects_twice turned (spared_shape (protection keep_shapes arcs) left) os)

-- ---- on a grid

module _ (keep_shapes : Bool) (cell : Point → Point) (arcs : List (List Point)) where
  abbrev Any : Bool × List ℤ → Type 0
  Any b = Unit {0}

  abbrev as_before : List ℤ → List ℤ
  as_before refs = refs

  pub rings_celled : (os : Objects) → protected_rings (protection keep_shapes arcs) (objects_celled cell os) ≡ protected_rings (protection keep_shapes arcs) os
  rings_celled os = rings_alike keep_shapes cell as_before arcs arcs Any (λ b h. refl) os (all_hold Any (λ b. tt) (objects_lines_and_rings os)) ∙ map-id (protected_rings (protection keep_shapes arcs) os)

  pub objects_celled_alike : (left : MarkedRefs) (os : Objects) → objects_spared (protection keep_shapes arcs) left (objects_celled cell os) ≡ objects_celled cell (objects_spared (protection keep_shapes arcs) left os)
  objects_celled_alike left os =
      objects_turned keep_shapes cell as_before arcs arcs Any (λ b h. refl) left left (λ b h mark. sym (given_back (left b.0 (mark, b.1)))) os (all_hold Any (λ b. tt) (objects_lines_and_rings os))
    where
      given_back : (o : Option (List ℤ)) → then_some (λ refs. Some refs) o ≡ o
      given_back None = refl
      given_back (Some refs) = refl
