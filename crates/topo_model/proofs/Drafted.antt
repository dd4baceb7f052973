-- A draft stands for the topology of its lines and rings that have an arc index: the same rings are protected, and the same is left of both.
use Rattle.std.proofs.Common.{◌≡◌, ℕ, ℤ, Bool, true, false, ◌&&◌, List, [], ◌∷◌, Option, None, Some, refl, sym, ap, ◌∙◌, map-id}
use Rattle.std.proofs.Math.Bool.{and-false}
use Rattle.std.specs.List.{AllByRecursion}
use Rattle.build_meaning.proofs.Again.{all_hold}
use Rattle.build_meaning.proofs.Greatest.{same_some}
use Rattle.build_meaning.proofs.GreatestLeft.{protection_is, way_of, ring_in, RingAgrees, ring_left, spared_left}
use Rattle.build_meaning.proofs.MarkedRing.{MarkPasses, marks_pass}
use Rattle.build_meaning.proofs.Names.{agreed}
use Rattle.build_meaning.proofs.Reshaped.{Objects, features_of, feature_with, pruned_shape, features_with, objects_same, objects_twice}
use Rattle.build_meaning.proofs.RingsAlike.{as_it_is, rings_made}
use Rattle.build_meaning.proofs.ShapesLeft.{keeping_mark}
use Rattle.build_meaning.proofs.Spared.{spared_shape}
use Rattle.build_meaning.specs.OuterRings.{marked}
use Rattle.build_meaning.specs.Protected.{enclosed, objects_spared, protected_of, protected_rings, protection, sparing}
use Rattle.build_meaning.specs.Simplified.{Refs, objects_pruned}
use Rattle.geometry.specs.Lists.{map_some, some_of, then_some}
use Rattle.geometry.specs.Points.{Point}
use Rattle.geometry.specs.Pruning.{lines_and_rings, prune}
use Rattle.guarded_meaning.specs.Guards.{is_long}
use Rattle.owned_values.proofs.Elements.{all_weaker}
use Rattle.topo_model.specs.DraftUses.{with_refs}
use Rattle.topojson_types.specs.Topologies.{TopoShape}

module _ (keep_shapes : Bool) (arcs : List (List Point)) where
  abbrev place : Point → Point
  place p = p

  abbrev size : List ℤ → ℕ
  size refs = enclosed arcs refs

  abbrev long : List ℤ → Bool
  long refs = keep_shapes && is_long arcs refs

  same_refs : (l m : List ℤ) → with_refs true l ≡ Some m → m ≡ l
  same_refs [] m e = cc
  same_refs (r ∷ rs) m e = sym (same_some (r ∷ rs) m e)

  -- one without an index has no four positions
  ring_agrees : (b : Bool × List ℤ) → RingAgrees place with_refs size long size long b
  ring_agrees b c = record {
    same_size = λ m k. ap size (same_refs b.1 m k);
    same_test = λ m k. ap long (same_refs b.1 m k);
    left_out_fails = λ k. fails b.1 k;
  }
    where
      fails : (l : List ℤ) → with_refs true l ≡ None → long l ≡ false
      fails [] k = and-false keep_shapes
      fails (r ∷ rs) k = cc

  all_agree : (s : TopoShape) → AllByRecursion (RingAgrees place with_refs size long size long) (lines_and_rings s)
  all_agree s = all_hold (RingAgrees place with_refs size long size long) ring_agrees (lines_and_rings s)

  -- ---- protected rings

  abbrev indexed : Option TopoShape → Option TopoShape
  indexed = pruned_shape place with_refs

  ring_same : (s : Option TopoShape) → map_some (λ x. x.part) (then_some (protection keep_shapes arcs) (indexed s)) ≡ map_some (λ x. x.part) (then_some (protection keep_shapes arcs) s)
  ring_same None = refl
  ring_same (Some s) =
      ap (λ p. map_some (λ x. x.part) (then_some p (prune place with_refs s))) (protection_is keep_shapes arcs)
      ∙ ring_left place with_refs size long size long s (all_agree s) (λ l. l) same_refs
      ∙ ap (λ p. map_some (λ x. x.part) (p s)) (sym (protection_is keep_shapes arcs))

  pub rings_drafted : (os : Objects) → protected_rings (protection keep_shapes arcs) (objects_pruned with_refs os) ≡ protected_rings (protection keep_shapes arcs) os
  rings_drafted os =
      ap (some_of (protected_of (protection keep_shapes arcs))) (features_with indexed os)
      ∙ rings_made (protected_of (protection keep_shapes arcs)) (protected_of (protection keep_shapes arcs)) (λ refs. refs) (feature_with indexed) (features_of os)
      (all_hold (λ t. protected_of (protection keep_shapes arcs) (feature_with indexed t) ≡ map_some (λ refs. refs) (protected_of (protection keep_shapes arcs) t))
      (λ t. ring_same t.shape ∙ sym (as_it_is (protected_of (protection keep_shapes arcs) t))) (features_of os))
      ∙ map-id (protected_rings (protection keep_shapes arcs) os)

  -- ---- what is left

  module _ (kept : Refs) (none : (closed : Bool) → kept closed [] ≡ None) where
    line_left : (b : Bool × (Bool × List ℤ)) → MarkPasses long b → then_some (sparing kept b.0) (keeping_mark with_refs b.0 b.1) ≡ sparing kept b.0 b.1
    line_left (closed, (mark, r ∷ rs)) h = refl
    line_left (closed, (false, [])) h = sym (none closed)
    line_left (closed, (true, [])) h = let z : false ≡ true = sym (and-false keep_shapes) ∙ (h refl).1 in cc

    shape_drafted : (s : Option TopoShape) → spared_shape (protection keep_shapes arcs) (sparing kept) (indexed s) ≡ spared_shape (protection keep_shapes arcs) (sparing kept) s
    shape_drafted None = refl
    shape_drafted (Some s) =
        let way : Option (List ℕ) = way_of (ring_in place with_refs size long size long s) in
        ap (λ p. spared_shape p (sparing kept) (prune place with_refs s)) (protection_is keep_shapes arcs)
        ∙ spared_left place with_refs size long size long s (all_agree s) place (sparing kept)
        ∙ agreed place (λ closed l. then_some (sparing kept closed) (keeping_mark with_refs closed l)) (sparing kept) (marked s way)
        (all_weaker (MarkPasses long) (λ b. then_some (sparing kept b.0) (keeping_mark with_refs b.0 b.1) ≡ sparing kept b.0 b.1) line_left (lines_and_rings (marked s way)) (marks_pass size long s))
        ∙ ap (λ p. spared_shape p (sparing kept) (Some s)) (sym (protection_is keep_shapes arcs))

    pub left_drafted : (os : Objects) → objects_spared (protection keep_shapes arcs) (sparing kept) (objects_pruned with_refs os) ≡ objects_spared (protection keep_shapes arcs) (sparing kept) os
    left_drafted os =
        objects_twice (spared_shape (protection keep_shapes arcs) (sparing kept)) indexed os
        ∙ objects_same (λ s. spared_shape (protection keep_shapes arcs) (sparing kept) (indexed s)) (spared_shape (protection keep_shapes arcs) (sparing kept)) shape_drafted os
