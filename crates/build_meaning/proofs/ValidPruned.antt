-- A shape of a topology of which some lines and rings are left out, by which they are and by whether they have a mark, has no empty list
-- where what is given for a line that has an element has one, its Points and MultiPoints stay where they are, and it is no group unless it
-- was one.
use Rattle.std.proofs.Common.{arith, ◌≡◌, ℕ, suc, ℤ, Bool, true, false, List, [], ◌∷◌, map, Option, None, Some, refl, sym, ap, ◌∙◌, subst}
use Rattle.build_meaning.proofs.Names.{AllByRecursion, list_all, all_append, all_left, all_right, all_map, all_two, all_weaker, by_kinds, some_mapped, map_some, then_some, with_some, some_of, joined, Point, area_by, prune, is_some_list, full_at, full-group, places_at, single_at, TopoShape, TopoFeature, TopoObject, Transform, into_part, ends_here, along, unmarked, rings_marked, marked, Protection, MarkedRefs, shape_marked, feature_spared, object_spared, objects_spared, Refs, and_from, and_parts, is_full, is_full_option, places, option_places, is_single, is_single_option, IsPlace, IsFeature, IsObject}
use Rattle.build_meaning.proofs.Marks.{left_plain, some_made, left-point, left-points, left-line, left-lines, left-area, left-areas, left-group}
use Rattle.build_meaning.proofs.Reshaped.{same_made, same_listed}
use Rattle.build_meaning.proofs.Spared.{by_refs}
use Rattle.build_meaning.proofs.ValidShapes.{has_rings, has_option, no_places, line_full, lines_full, area_full, with_area, areas_full}
use Rattle.geometry.specs.declared.shape.Geometry.TheVariants as g

-- what is given for a line or ring that has an element has one
abbrev pub GivesSome : Refs → Type 0
GivesSome kept = (closed : Bool) (l : List ℤ) → is_some_list l ≡ true → (m : List ℤ) → kept closed l ≡ Some m → is_some_list m ≡ true

-- so it is with a mark and without
abbrev pub MarkedGivesSome : MarkedRefs → Type 0
MarkedGivesSome kept = (closed mark : Bool) (l : List ℤ) → is_some_list l ≡ true → (m : List ℤ) → kept closed (mark, l) ≡ Some m → is_some_list m ≡ true

module _ (place : Point → Point) (kept : MarkedRefs) where
  abbrev made : TopoShape → Option (List ℕ) → Option TopoShape
  made s way = prune place kept (marked s way)

  abbrev plain : Bool → List ℤ → Option (List ℤ)
  plain closed l = kept closed (unmarked l)

  -- ---- no group

  abbrev Single : TopoShape → Type 0
  Single s = (way : Option (List ℕ)) → is_single s ≡ true → is_single_option (made s way) ≡ true

  stays_single : (s : TopoShape) → Single s
  stays_single = by_kinds Single (record {
    point = λ p way h. ap is_single_option (left-point place kept p way) ∙ single_at.point (place p);
    points = λ ps way h. ap is_single_option (left-points place kept ps way) ∙ single_at.points (map place ps);
    line = λ l way h. ap is_single_option (left-line place kept l way) ∙ same_made true is_single g.Line single_at.line (plain false l);
    lines = λ ls way h. ap is_single_option (left-lines place kept ls way) ∙ same_listed true is_single g.Lines single_at.lines (some_of (plain false) ls);
    area = λ rs way h. ap is_single_option (left-area place kept rs way) ∙ same_made true is_single g.Area single_at.area (area_by (kept true) (rings_marked rs way));
    areas = λ areas way h. ap is_single_option (left-areas place kept areas way) ∙ same_listed true is_single g.Areas single_at.areas (some_of (area_by (kept true)) (along rings_marked 0 areas way));
    group = λ ss all way h. (let z : false ≡ true = sym (single_at.group ss) ∙ h in cc);
  })

  -- ---- places

  module _ (X : Point → Type 0) where
    -- it has the property where it is put
    abbrev Placed : Point → Type 0
    Placed p = X (place p)

    abbrev Stay : TopoShape → Type 0
    Stay s = (way : Option (List ℕ)) → AllByRecursion Placed (places s) → AllByRecursion X (option_places (made s way))

    members_stay : (i : ℕ) (ss : List TopoShape) (way : Option (List ℕ)) → AllByRecursion Stay ss → AllByRecursion Placed (joined (map places ss))
        → AllByRecursion X (joined (map places (some_of (prune place kept) (along marked i ss way))))
    members_stay i [] way all h = tt
    members_stay i (s ∷ ss) way all h =
        one (made s (into_part i way)) (all.0 (into_part i way) (all_left Placed (places s) (joined (map places ss)) h))
        (members_stay (suc i) ss way all.1 (all_right Placed (places s) (joined (map places ss)) h))
      where
        one : (o : Option TopoShape) → AllByRecursion X (option_places o) → AllByRecursion X (joined (map places (some_of (prune place kept) (along marked (suc i) ss way))))
            → AllByRecursion X (joined (map places (with_some o (some_of (prune place kept) (along marked (suc i) ss way)))))
        one None k more = more
        one (Some t) k more = all_append X (places t) (joined (map places (some_of (prune place kept) (along marked (suc i) ss way)))) k more

    pub places_stay : (s : TopoShape) → Stay s
    places_stay = by_kinds Stay (record {
      point = λ p way h. subst (AllByRecursion X) (sym (ap option_places (left-point place kept p way) ∙ places_at.point (place p))) (subst (AllByRecursion Placed) (places_at.point p) h);
      points = λ ps way h. subst (AllByRecursion X) (sym (ap option_places (left-points place kept ps way) ∙ places_at.points (map place ps)))
          (all_map X place ps (subst (AllByRecursion Placed) (places_at.points ps) h));
      line = λ l way h. no_places X (made (g.Line l) way) (ap option_places (left-line place kept l way) ∙ same_made [] places g.Line places_at.line (plain false l));
      lines = λ ls way h. no_places X (made (g.Lines ls) way) (ap option_places (left-lines place kept ls way) ∙ same_listed [] places g.Lines places_at.lines (some_of (plain false) ls));
      area = λ rs way h. no_places X (made (g.Area rs) way) (ap option_places (left-area place kept rs way) ∙ same_made [] places g.Area places_at.area (area_by (kept true) (rings_marked rs way)));
      areas = λ areas way h. no_places X (made (g.Areas areas) way) (ap option_places (left-areas place kept areas way) ∙ same_listed [] places g.Areas places_at.areas (some_of (area_by (kept true)) (along rings_marked 0 areas way)));
      group = λ ss all way h. subst (AllByRecursion X) (sym (ap option_places (left-group place kept ss way) ∙ places_at.group (some_of (prune place kept) (along marked 0 ss way))))
          (members_stay 0 ss way all (subst (AllByRecursion Placed) (places_at.group ss) h));
    })

  -- ---- lists

  module _ (some : MarkedGivesSome kept) where
    abbrev Full : TopoShape → Type 0
    Full s = (way : Option (List ℕ)) → is_full s ≡ true → is_full_option (made s way) ≡ true

    all_some : (closed : Bool) (ls : List (List ℤ)) → list_all is_some_list ls ≡ true → list_all is_some_list (some_of (plain closed) ls) ≡ true
    all_some closed [] h = refl
    all_some closed (l ∷ ls) h = grind (arith, and_from, all_some closed ls)

    rings_have : (rs : List (List ℤ)) (way : Option (List ℕ)) → has_rings rs ≡ true → has_option (area_by (kept true) (rings_marked rs way)) ≡ true
    rings_have [] way h = refl
    rings_have (o ∷ holes) way h =
        let k = and_parts (is_some_list o) (list_all is_some_list holes) h in
        on (kept true (ends_here way, o)) (some true (ends_here way) o k.0)
        (ap (list_all is_some_list) (some_made unmarked (kept true) holes) ∙ all_some true holes k.1)
      where
        on : (m : Option (List ℤ)) → ((l : List ℤ) → m ≡ Some l → is_some_list l ≡ true) → list_all is_some_list (some_of (kept true) (map unmarked holes)) ≡ true
            → has_option (map_some (λ l. l ∷ some_of (kept true) (map unmarked holes)) m) ≡ true
        on None f e = refl
        on (Some l) f e = and_from (is_some_list l) (list_all is_some_list (some_of (kept true) (map unmarked holes))) (f l refl) e

    areas_have : (i : ℕ) (areas : List (List (List ℤ))) (way : Option (List ℕ)) → list_all has_rings areas ≡ true → list_all has_rings (some_of (area_by (kept true)) (along rings_marked i areas way)) ≡ true
    areas_have i [] way h = refl
    areas_have i (rs ∷ areas) way h = grind (arith, with_area, rings_have, areas_have (suc i) areas way)

    members_full : (i : ℕ) (ss : List TopoShape) (way : Option (List ℕ)) → AllByRecursion Full ss → list_all is_full ss ≡ true → list_all is_full (some_of (prune place kept) (along marked i ss way)) ≡ true
    members_full i [] way all h = refl
    members_full i (s ∷ ss) way all h = grind (arith, and_from, all.0 (into_part i way), members_full (suc i) ss way all.1)

    made_full : (s : TopoShape) → Full s
    made_full = by_kinds Full (record {
      point = λ p way h. ap is_full_option (left-point place kept p way) ∙ full_at.point (place p);
      points = λ ps way h. ap is_full_option (left-points place kept ps way) ∙ full_at.points (map place ps) ∙ some_mapped place ps ∙ sym (full_at.points ps) ∙ h;
      line = λ l way h. ap is_full_option (left-line place kept l way) ∙ line_full (plain false l) (some false false l (sym (full_at.line l) ∙ h));
      lines = λ ls way h. ap is_full_option (left-lines place kept ls way)
          ∙ lines_full (some_of (plain false) ls) (all_some false ls (and_parts (is_some_list ls) (list_all is_some_list ls) (sym (full_at.lines ls) ∙ h)).1);
      area = λ rs way h. ap is_full_option (left-area place kept rs way) ∙ area_full (area_by (kept true) (rings_marked rs way)) (rings_have rs way (sym (full_at.area rs) ∙ h));
      areas = λ areas way h. ap is_full_option (left-areas place kept areas way)
          ∙ areas_full (some_of (area_by (kept true)) (along rings_marked 0 areas way)) (areas_have 0 areas way (and_parts (is_some_list areas) (list_all has_rings areas) (sym (full_at.areas areas) ∙ h)).1);
      group = λ ss all way h. ap is_full_option (left-group place kept ss way) ∙ full-group (some_of (prune place kept) (along marked 0 ss way)) ∙ members_full 0 ss way all (sym (full-group ss) ∙ h);
    })

-- ---- shapes without a mark

module _ (place : Point → Point) (kept : Refs) where
  -- what is left is what is left where no ring has a mark
  abbrev as_marked : (s : TopoShape) → prune place (by_refs kept) (marked s None) ≡ prune place kept s
  as_marked = left_plain place (by_refs kept)

  pub option_full : GivesSome kept → (s : Option TopoShape) → is_full_option s ≡ true → is_full_option (then_some (prune place kept) s) ≡ true
  option_full some None h = refl
  option_full some (Some s) h = ap is_full_option (sym (as_marked s)) ∙ made_full place (by_refs kept) (λ closed mark. some closed) s None h

  pub option_stay : (X : Point → Type 0) (s : Option TopoShape) → AllByRecursion (λ p. X (place p)) (option_places s) → AllByRecursion X (option_places (then_some (prune place kept) s))
  option_stay X None h = h
  option_stay X (Some s) h = subst (λ o. AllByRecursion X (option_places o)) (as_marked s) (places_stay place (by_refs kept) X s None h)

  pub option_single : (s : Option TopoShape) → is_single_option s ≡ true → is_single_option (then_some (prune place kept) s) ≡ true
  option_single None h = refl
  option_single (Some s) h = ap is_single_option (sym (as_marked s)) ∙ stays_single place (by_refs kept) s None h

-- ---- features and objects

module _ (protects : Protection) (kept : MarkedRefs) (some : MarkedGivesSome kept) (transform : Option Transform) where
  abbrev left : TopoShape → Option TopoShape
  left s = prune (λ p. p) kept (shape_marked protects s)

  left_full : (s : Option TopoShape) → is_full_option s ≡ true → is_full_option (then_some left s) ≡ true
  left_full None h = refl
  left_full (Some s) h = made_full (λ p. p) kept some s (map_some (λ x. x.path) (protects s)) h

  left_stays : (s : Option TopoShape) → AllByRecursion (IsPlace transform) (option_places s) → AllByRecursion (IsPlace transform) (option_places (then_some left s))
  left_stays None h = h
  left_stays (Some s) h = places_stay (λ p. p) kept (IsPlace transform) s (map_some (λ x. x.path) (protects s)) h

  left_single : (s : Option TopoShape) → is_single_option s ≡ true → is_single_option (then_some left s) ≡ true
  left_single None h = refl
  left_single (Some s) h = stays_single (λ p. p) kept s (map_some (λ x. x.path) (protects s)) h

  feature_is : (f : TopoFeature) → IsFeature transform f → IsFeature transform (feature_spared protects kept f)
  feature_is f h = (left_full f.shape h.0, left_stays f.shape h.1)

  features_are : (fs : List TopoFeature) → AllByRecursion (IsFeature transform) fs → AllByRecursion (IsFeature transform) (map (feature_spared protects kept) fs)
  features_are fs h = search (all_map, all_two, all_weaker, feature_is)

  object_is : (o : TopoObject) → IsObject transform o → IsObject transform (object_spared protects kept o)
  object_is o h = grind (arith, feature_is, left_single, features_are)

  pub objects_are : (os : List (List ℕ × TopoObject)) → AllByRecursion (λ o. IsObject transform o.1) os → AllByRecursion (λ o. IsObject transform o.1) (objects_spared protects kept os)
  objects_are os h = search (all_map, all_two, all_weaker, object_is)
