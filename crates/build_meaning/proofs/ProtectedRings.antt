-- What holds of the rings of a topology holds of those of them that are protected.
use Rattle.std.proofs.Common.{◌≡◌, ℕ, ℤ, Bool, true, List, ◌∷◌, map, length, Option, None, Some, inl, refl, sym, subst}
use Rattle.build_meaning.proofs.Names.{AllByRecursion, length-map, AreInRange, Meet, arc_at, In, joined, Point, option_lines_and_rings, all_weaker, each_of, in_right, TopoFeature, TopoObject, Transform, placed_arcs, object_features, objects_lines_and_rings, place_on, IsJoined, arc_positions, outer_rings, greatest_ring, protected_of, protected_rings}
use Rattle.build_meaning.proofs.Greatest.{greatest_is}
use Rattle.build_meaning.proofs.GreatestLeft.{rings_within}
use Rattle.build_meaning.proofs.LeftOf.{are_long, OfFeature, Protects, all_given, each_of_objects, protected_parts}
use Rattle.build_meaning.proofs.ValidCelled.{line_map, meet_map}
use Rattle.build_meaning.specs.ProtectedRings.{ProtectedRingsCanStay}

-- ---- the protected ring of a feature

module _ (X : Bool × List ℤ → Type 0) (arcs : List (List Point)) where
  abbrev Given : TopoFeature → Type 0
  Given f = (refs : List ℤ) → protected_of (greatest_ring arcs) f ≡ Some refs → X (true, refs)

  pub of_protected : (f : TopoFeature) → OfFeature X f → Given f
  of_protected f h refs e =
      let p : Protects (greatest_ring arcs) f.shape refs = protected_parts (greatest_ring arcs) f.shape refs e in
      let g = greatest_is arcs p.shape p.ring p.is_ring in
      let among : In p.ring (outer_rings p.shape) = subst (In p.ring) (sym g.outer) (in_right p.ring g.before (p.ring ∷ g.after) (inl refl)) in
      let all : AllByRecursion (λ x. X (true, x.part)) (outer_rings p.shape) = rings_within X p.shape (subst (λ o. AllByRecursion X (option_lines_and_rings o)) p.has_shape h) in
      subst (λ rs. X (true, rs)) p.refs_are (each_of (λ x. X (true, x.part)) (outer_rings p.shape) p.ring all among)

  of_all_protected : (os : List (List ℕ × TopoObject)) → AllByRecursion X (objects_lines_and_rings os) → AllByRecursion (λ refs. X (true, refs)) (protected_rings (greatest_ring arcs) os)
  of_all_protected os h =
      let features : List TopoFeature = joined (map (λ o. object_features o.1) os) in
      all_given (λ refs. X (true, refs)) (protected_of (greatest_ring arcs)) features (all_weaker (OfFeature X) Given of_protected features (each_of_objects X os h))

-- ---- arcs in the plane

placed_count : (transform : Option Transform) (arcs : List (List Point)) → length (placed_arcs transform arcs) ≡ length arcs
placed_count None arcs = refl
placed_count (Some t) arcs = length-map arcs (map (place_on t))

placed_meet : (transform : Option Transform) (arcs : List (List Point)) (refs : List ℤ) → Meet (map (arc_at arcs) refs) → Meet (map (arc_at (placed_arcs transform arcs)) refs)
placed_meet None arcs refs h = h
placed_meet (Some t) arcs refs h = subst Meet (sym (line_map (place_on t) arcs refs)) (meet_map (place_on t) (map (arc_at arcs) refs) h)

-- ---- what the reduction asks of rings

pub can_stay : ProtectedRingsCanStay
can_stay y h =
    let arcs : List (List Point) = arc_positions y in
    record {
      in_range = subst (λ n. AllByRecursion (AreInRange n) (protected_rings (greatest_ring arcs) y.objects)) (sym (placed_count y.transform y.arcs))
          (of_all_protected (λ b. AreInRange (length y.arcs) b.1) arcs y.objects h.ranged);
      meet = all_weaker (λ refs. Meet (map (arc_at y.arcs) refs)) (λ refs. Meet (map (arc_at arcs) refs)) (placed_meet y.transform y.arcs) (protected_rings (greatest_ring arcs) y.objects)
          (of_all_protected (IsJoined y.arcs) arcs y.objects h.joined);
      long = are_long arcs y.objects;
    }
