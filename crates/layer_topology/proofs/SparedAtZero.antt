-- Where no arc is reduced, what is left of a topology at a limit of zero is the same whether of each feature the ring that encloses most is protected
-- or none is: that ring has four positions.
use Rattle.std.proofs.Common.{arith, ◌≡◌, ◌∙◌, ℕ, suc, ℤ, nat_lt, Bool, true, false, cond, not, List, [], ◌∷◌, map, Option, None, Some, refl, sym, ap, subst}
use Rattle.std.specs.Prelude.{◌||◌, ◌&&◌}
use Rattle.std.specs.List.{AllByRecursion}
use Rattle.build_meaning.proofs.AtFirst.{all_at_zero, each_retained}
use Rattle.build_meaning.specs.Expected.{unless}
use Rattle.build_meaning.specs.Trimming.{trimmed}
use Rattle.geometry.specs.Areas.{twice_ring_area}
use Rattle.geometry.specs.declared.address.Cause.TheVariants.{Small}
use Rattle.geometry.specs.declared.shape.Geometry.TheVariants as g
use Rattle.geometry.specs.Joins.{arc_at, stitched}
use Rattle.geometry.specs.Lists.{map_some, then_some, some_of, unless_empty}
use Rattle.geometry.specs.Points.{Point}
use Rattle.geometry.specs.Pruning.{area_by, prune, lines_and_rings}
use Rattle.geometry.proofs.Agreement.{agreed}
use Rattle.geometry.proofs.Cases.{prune_at, prune-group}
use Rattle.geometry.proofs.Induction.{by_kinds}
use Rattle.guarded_meaning.specs.Elimination.{Guard, reduce_arcs}
use Rattle.guarded_meaning.specs.Guards.{is_long}
use Rattle.guarded_meaning.specs.Laws.{KeptByWeight}
use Rattle.junctions.specs.Cleaning.{clean, is_short}
use Rattle.owned_values.proofs.Elements.{all_weaker}
use Rattle.build_meaning.specs.ArcPositions.{arc_positions}
use Rattle.build_meaning.specs.OuterRings.{outer_rings, into_part, along, unmarked, rings_marked, marked}
use Rattle.build_meaning.specs.Protected.{enclosed, greatest_ring, sparing, shape_marked, feature_spared, object_spared, objects_spared, spared_by}
use Rattle.build_meaning.specs.Simplified.{Refs, feature_pruned, object_pruned, objects_pruned, large_refs, retained_arcs, simplified_by}
use Rattle.build_meaning.proofs.GreatestLeft.{greatest_of, way_of}
use Rattle.build_meaning.proofs.MarkedRing.{MarkPasses, marks_pass}
use Rattle.build_meaning.proofs.Marks.{left-point, left-points, left-line, left-lines, left-area, left-areas, left-group, some_made}
use Rattle.build_meaning.proofs.Spared.{by_refs}
use Rattle.topojson_types.specs.declared.feature.TopoFeature.{TopoFeature}
use Rattle.topojson_types.specs.declared.object.TopoObject.{TopoObject}
use Rattle.topojson_types.specs.declared.object.TopoObject.TheVariants.{One, Many}
use Rattle.topojson_types.specs.Decoding.{placed_arcs}
use Rattle.topojson_types.specs.Topologies.{TopoShape, Contents}

-- ---- where a mark changes nothing

abbrev here : Point → Point
here p = p

module _ (kept : Refs) where
  area_left : (rs : List (List ℤ)) (way : Option (List ℕ)) → area_by (by_refs kept true) (rings_marked rs way) ≡ area_by (kept true) rs
  area_left [] way = refl
  area_left (o ∷ holes) way = ap (λ hs. map_some (λ m. m ∷ hs) (kept true o)) (some_made unmarked (by_refs kept true) holes)

  areas_left : (i : ℕ) (areas : List (List (List ℤ))) (way : Option (List ℕ)) → some_of (area_by (by_refs kept true)) (along rings_marked i areas way) ≡ some_of (area_by (kept true)) areas
  areas_left i [] way = refl
  areas_left i (rs ∷ areas) way = rw (area_left rs (into_part i way), areas_left (suc i) areas way) refl

  abbrev Ignores : TopoShape → Type 0
  Ignores s = (way : Option (List ℕ)) → prune here (by_refs kept) (marked s way) ≡ prune here kept s

  members_left : (i : ℕ) (ss : List TopoShape) (way : Option (List ℕ)) → AllByRecursion Ignores ss → some_of (prune here (by_refs kept)) (along marked i ss way) ≡ some_of (prune here kept) ss
  members_left i [] way all = refl
  members_left i (s ∷ ss) way all = rw (all.0 (into_part i way), members_left (suc i) ss way all.1) refl

  ignores : (s : TopoShape) → Ignores s
  ignores = by_kinds Ignores (record {
    point = λ p way. left-point here (by_refs kept) p way ∙ sym ((prune_at here kept).point p);
    points = λ ps way. left-points here (by_refs kept) ps way ∙ sym ((prune_at here kept).points ps);
    line = λ l way. left-line here (by_refs kept) l way ∙ sym ((prune_at here kept).line l);
    lines = λ ls way. left-lines here (by_refs kept) ls way ∙ sym ((prune_at here kept).lines ls);
    area = λ rs way. left-area here (by_refs kept) rs way ∙ ap (map_some g.Area) (area_left rs way) ∙ sym ((prune_at here kept).area rs);
    areas = λ areas way. left-areas here (by_refs kept) areas way ∙ ap (unless_empty g.Areas) (areas_left 0 areas way) ∙ sym ((prune_at here kept).areas areas);
    group = λ ss all way. left-group here (by_refs kept) ss way ∙ ap (λ ts. Some (g.Group ts)) (members_left 0 ss way all) ∙ sym (prune-group here kept ss);
  })

-- ---- at a limit of zero

none_less : (n : ℕ) → nat_lt n 0 ≡ false
none_less n = grind arith

module _ (arcs : List (List Point)) where
  -- a ring with four positions stays
  long_stays : (refs : List ℤ) → is_long arcs refs ≡ true → large_refs 0 arcs true refs ≡ Some refs
  long_stays refs h = on (is_short true (clean (stitched (map (arc_at arcs) refs)))) (nat_lt (twice_ring_area (stitched (map (arc_at arcs) refs))) 0) h (none_less _)
    where
      on : (s z : Bool) → not s ≡ true → z ≡ false → unless (cond (s || (true && z)) (Some Small) None) refs ≡ Some refs
      on true z k e = absurd cc
      on false true k e = absurd cc
      on false false k e = refl

  same : (b : Bool × (Bool × List ℤ)) → MarkPasses (is_long arcs) b → sparing (large_refs 0 arcs) b.0 b.1 ≡ by_refs (large_refs 0 arcs) b.0 b.1
  same b h = on b.1.0 refl
    where
      on : (m : Bool) → b.1.0 ≡ m → cond m (Some b.1.1) (large_refs 0 arcs b.0 b.1.1) ≡ large_refs 0 arcs b.0 b.1.1
      on true e = let k = h e in sym (subst (λ closed. large_refs 0 arcs closed b.1.1 ≡ Some b.1.1) (sym k.0) (long_stays b.1.1 k.1))
      on false e = refl

  shape_same : (s : Option TopoShape) → then_some (λ s. prune (λ (p : Point). p) (sparing (large_refs 0 arcs)) (shape_marked (greatest_ring arcs) s)) s ≡ then_some (prune (λ p. p) (large_refs 0 arcs)) s
  unfolding greatest_ring
  shape_same None = refl
  shape_same (Some s) =
      let way : Option (List ℕ) = way_of (greatest_of (enclosed arcs) (is_long arcs) (outer_rings s)) in
      agreed here (sparing (large_refs 0 arcs)) (by_refs (large_refs 0 arcs)) (marked s way)
      (all_weaker (MarkPasses (is_long arcs)) (λ b. sparing (large_refs 0 arcs) b.0 b.1 ≡ by_refs (large_refs 0 arcs) b.0 b.1) same (lines_and_rings (marked s way)) (marks_pass (enclosed arcs) (is_long arcs) s))
      ∙ ignores (large_refs 0 arcs) s way

  abbrev with_shape : TopoFeature → Option TopoShape → TopoFeature
  with_shape f s = record { id = f.id; properties = f.properties; shape = s }

  feature_same : (f : TopoFeature) → feature_spared (greatest_ring arcs) (sparing (large_refs 0 arcs)) f ≡ feature_pruned (large_refs 0 arcs) f
  feature_same f = ap (with_shape f) (shape_same f.shape)

  features_same : (fs : List TopoFeature) → map (feature_spared (greatest_ring arcs) (sparing (large_refs 0 arcs))) fs ≡ map (feature_pruned (large_refs 0 arcs)) fs
  features_same [] = refl
  features_same (f ∷ fs) = rw (feature_same f, features_same fs) refl

  object_same : (o : TopoObject) → object_spared (greatest_ring arcs) (sparing (large_refs 0 arcs)) o ≡ object_pruned (large_refs 0 arcs) o
  object_same (One f) = ap One (feature_same f)
  object_same (Many fs) = ap Many (features_same fs)

  objects_same : (os : List (List ℕ × TopoObject)) → objects_spared (greatest_ring arcs) (sparing (large_refs 0 arcs)) os ≡ objects_pruned (large_refs 0 arcs) os
  objects_same [] = refl
  objects_same (o ∷ os) = rw (object_same o.1, objects_same os) refl

-- where all cells stay, the same is left
pub spared_alike : (kept : List (List ℕ)) (y : Contents) → retained_arcs kept y.arcs ≡ y.arcs → spared_by (greatest_ring (arc_positions y)) kept 0 y ≡ simplified_by kept 0 y
unfolding spared_by simplified_by
spared_alike kept y whole =
    ap (λ arcs. trimmed (record { objects = objects_spared (greatest_ring (arc_positions y)) (sparing (large_refs 0 (placed_arcs y.transform arcs))) y.objects; arcs = arcs; transform = y.transform })) whole
    ∙ ap (λ os. trimmed (record { objects = os; arcs = y.arcs; transform = y.transform })) (objects_same (arc_positions y) y.objects)
    ∙ sym (ap (λ arcs. trimmed (record { objects = objects_pruned (large_refs 0 (placed_arcs y.transform arcs)) y.objects; arcs = arcs; transform = y.transform })) whole)

-- ---- at a threshold of zero

pub nothing_goes : KeptByWeight → (guard : Guard) (y : Contents) → retained_arcs (reduce_arcs guard 0 (arc_positions y)) y.arcs ≡ y.arcs
nothing_goes by_weight guard y = ap (λ kept. retained_arcs kept y.arcs) (all_at_zero by_weight guard y) ∙ each_retained y.arcs
