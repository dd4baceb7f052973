-- Where each arc is used, each has its own index again, and objects that are pruned stay as they are.
use Rattle.std.proofs.Common.{arith, ◌≡◌, ℕ, zero, suc, ◌<◌, ◌≤◌, ℤ, pos, negsuc, Bool, true, List, [], ◌∷◌, map, length, Option, None, Some, if◌then◌else◌, refl, sym, ap, ◌∙◌}
use Rattle.std.specs.List.{AllByRecursion, list_all}
use Rattle.std.proofs.lemmas.Bool.{and_parts}
use Rattle.build_meaning.specs.Trimming.{keep_from, line_renumbered, new_index_from, renumbered}
use Rattle.geometry.specs.Joins.{AreInRange, number_of}
use Rattle.geometry.specs.Lists.{tail, then_some}
use Rattle.geometry.specs.Points.{Point}
use Rattle.geometry.specs.Pruning.{lines_and_rings, prune}
use Rattle.geometry.proofs.Agreement.{agreed}
use Rattle.geometry.proofs.Composition.{both, composed}
use Rattle.owned_values.proofs.Elements.{all_weaker}
use Rattle.build_meaning.specs.OuterRings.{marked}
use Rattle.build_meaning.specs.Protected.{MarkedRefs}
use Rattle.build_meaning.specs.Simplified.{feature_pruned, object_pruned, objects_pruned}
use Rattle.build_meaning.proofs.Again.{all_hold}
use Rattle.build_meaning.proofs.Objects.{objects_then}
use Rattle.topojson_types.specs.declared.feature.TopoFeature.{TopoFeature}
use Rattle.topojson_types.specs.declared.object.TopoObject.{TopoObject}
use Rattle.topojson_types.specs.declared.object.TopoObject.TheVariants.{One, Many}
use Rattle.topojson_types.specs.Topologies.{TopoShape, object_features, objects_lines_and_rings}
use Rattle.topo_model.specs.Along.{Ways, first_way, by_ways, ways_after, feature_along, object_along, objects_along}
use Rattle.topo_model.specs.ArcUses.{as_they_are}
use Rattle.topo_model.specs.Uses.{answers}
use Rattle.topo_model.proofs.Along.{Objects}

-- ---- arcs

abbrev AllPass : (ℕ → Bool) → ℕ → ℕ → Type 0
AllPass u n count = list_all (λ flag. flag) (answers u n count) ≡ true

module _ (u : ℕ → Bool) where
  pub all_kept : {X : Type 0} (n : ℕ) (xs : List X) → AllPass u n (length xs) → keep_from u n xs ≡ xs
  all_kept n [] h = refl
  all_kept n (x ∷ xs) h =
      let k = and_parts (u n) (list_all (λ flag. flag) (answers u (suc n) (length xs))) h in
      ap (λ b. if b then x ∷ keep_from u (suc n) xs else keep_from u (suc n) xs) k.0 ∙ ap (λ ys. x ∷ ys) (all_kept (suc n) xs k.1)

  own_index : (n count i : ℕ) → i ≤ count → AllPass u n count → new_index_from u n i ≡ i
  own_index n count zero le h = refl
  own_index n zero (suc i) le h = absurd (omega (arith, le))
  own_index n (suc count) (suc i) le h =
      let k = and_parts (u n) (list_all (λ flag. flag) (answers u (suc n) count)) h in
      ap (λ b. if b then suc (new_index_from u (suc n) i) else new_index_from u (suc n) i) k.0 ∙ ap suc (own_index (suc n) count i (omega (arith, le)) k.1)

  same_index : (count : ℕ) (r : ℤ) → AllPass u 0 count → number_of r < count → renumbered u r ≡ r
  unfolding number_of
  same_index count (pos i) h lt = ap pos (own_index 0 count i (omega (arith, lt)) h)
  same_index count (negsuc i) h lt = ap negsuc (own_index 0 count i (omega (arith, lt)) h)

  same_refs : (count : ℕ) (refs : List ℤ) → AllPass u 0 count → AreInRange count refs → map (renumbered u) refs ≡ refs
  same_refs count [] h k = refl
  same_refs count (r ∷ refs) h k = ap (λ z. z ∷ map (renumbered u) refs) (same_index count r h k.0) ∙ ap (λ rs. r ∷ rs) (same_refs count refs h k.1)

  -- objects that are pruned stay as they are where they are renumbered
  pub renumbered_alike : (count : ℕ) (os : Objects) → AllPass u 0 count → AllByRecursion (λ b. AreInRange count b.1) (objects_lines_and_rings os) → objects_pruned as_they_are os ≡ os
      → os ≡ objects_pruned (line_renumbered u) os
  renumbered_alike count os h ranged whole =
      sym (ap (objects_pruned as_they_are) whole ∙ whole)
      ∙ objects_then as_they_are as_they_are (line_renumbered u) os
      (all_weaker (λ b. AreInRange count b.1) (λ b. Some b.1 ≡ line_renumbered u b.0 b.1) (λ b k. ap (λ z. Some z) (sym (same_refs count b.1 h k))) (objects_lines_and_rings os) ranged)

-- ---- pruned objects

module _ (kept : MarkedRefs) where
  abbrev left : Option (List ℕ) → Option TopoShape → Option TopoShape
  left way s = then_some (λ s. prune (λ (p : Point). p) kept (marked s way)) s

  as_it_is : (closed : Bool) (o : Option (List ℤ)) → then_some (as_they_are closed) o ≡ o
  as_it_is closed None = refl
  as_it_is closed (Some refs) = refl

  shape_again : (way : Option (List ℕ)) (s : Option TopoShape) → then_some (prune (λ (p : Point). p) as_they_are) (left way s) ≡ left way s
  shape_again way None = refl
  shape_again way (Some s) =
      composed (λ (p : Point). p) (λ (p : Point). p) kept as_they_are (marked s way)
      ∙ agreed (λ (p : Point). p) (both (λ (p : Point). p) (λ (p : Point). p) kept as_they_are) kept (marked s way)
      (all_hold (λ b. then_some (as_they_are b.0) (kept b.0 b.1) ≡ kept b.0 b.1) (λ b. as_it_is b.0 (kept b.0 b.1)) (lines_and_rings (marked s way)))

  abbrev with_shape : TopoFeature → Option TopoShape → TopoFeature
  with_shape f s = record { id = f.id; properties = f.properties; shape = s }

  feature_again : (way : Option (List ℕ)) (f : TopoFeature) → feature_pruned as_they_are (feature_along kept way f) ≡ feature_along kept way f
  feature_again way f = ap (with_shape f) (shape_again way f.shape)

  features_again : (ways : Ways) (fs : List TopoFeature) → map (feature_pruned as_they_are) (by_ways (feature_along kept) ways fs) ≡ by_ways (feature_along kept) ways fs
  features_again ways [] = refl
  features_again ways (f ∷ fs) =
      ap (λ h. h ∷ map (feature_pruned as_they_are) (by_ways (feature_along kept) (tail ways) fs)) (feature_again (first_way ways) f)
      ∙ ap (λ gs. feature_along kept (first_way ways) f ∷ gs) (features_again (tail ways) fs)

  object_again : (ways : Ways) (o : TopoObject) → object_pruned as_they_are (object_along kept ways o) ≡ object_along kept ways o
  object_again ways (One f) = ap One (feature_again (first_way ways) f)
  object_again ways (Many fs) = ap Many (features_again ways fs)

  -- they stay as they are where they are pruned again
  pub objects_again : (ways : Ways) (os : Objects) → objects_pruned as_they_are (objects_along kept ways os) ≡ objects_along kept ways os
  objects_again ways [] = refl
  objects_again ways (o ∷ os) =
      let rest : Ways = ways_after ways (object_features o.1) in
      ap (λ p. (o.0, p) ∷ objects_pruned as_they_are (objects_along kept rest os)) (object_again ways o.1) ∙ ap (λ ps. (o.0, object_along kept ways o.1) ∷ ps) (objects_again rest os)
