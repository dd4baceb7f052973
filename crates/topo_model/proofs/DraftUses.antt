-- The arcs that what is left of objects uses, part by part.
use Rattle.std.proofs.Common.{arith, ◌≡◌, ◌<◌, ◌≤◌, ◌+◌, length, drop, get_or, ℕ, ℤ, Bool, true, false, ◌||◌, List, [], ◌∷◌, map, Option, None, Some, refl, sym, ap, ◌∙◌}
use Rattle.std.specs.List.{list_any}
use Rattle.std.proofs.Math.Bool.{or-false}
use Rattle.std.proofs.lemmas.List.{at_drop_more, drop_all}
use Rattle.std.proofs.lemmas.List.Folds.{list_any-append}
use Rattle.geometry.specs.declared.shape.Geometry.TheVariants as g
use Rattle.geometry.specs.Lists.{map_some, some_of, tail, with_some, unless_empty}
use Rattle.geometry.specs.Points.{Point}
use Rattle.geometry.specs.Pruning.{prune, area_by, lines_and_rings, option_lines_and_rings}
use Rattle.geometry.proofs.Cases.{lines_and_rings-point, lines_and_rings-points, lines_and_rings-line, lines_and_rings-lines, lines_and_rings-area, lines_and_rings-areas, lines_and_rings-group}
use Rattle.build_meaning.specs.OuterRings.{along, ends_here, marked, rings_marked, unmarked}
use Rattle.build_meaning.specs.Protected.{MarkedRefs, sparing}
use Rattle.build_meaning.specs.Trimming.{is_used}
use Rattle.geojson_types.specs.Features.{is_some_list}
use Rattle.owned_values.proofs.Elements.{all_weaker}
use Rattle.build_meaning.specs.Simplified.{Refs, objects_pruned}
use Rattle.build_meaning.proofs.Again.{all_hold}
use Rattle.build_meaning.proofs.Marks.{left-point, left-points, left-line, left-lines, left-area, left-areas, left-group, some_made}
use Rattle.build_meaning.proofs.Objects.{objects_then, objects_replaced}
use Rattle.topojson_types.specs.declared.feature.TopoFeature.{TopoFeature}
use Rattle.topojson_types.specs.declared.object.TopoObject.{TopoObject}
use Rattle.topojson_types.specs.Topologies.{TopoShape, object_features, features_lines_and_rings, objects_lines_and_rings}
use Rattle.topo_model.specs.Along.{Ways, by_ways, feature_along, first_way, object_along, objects_along, ways_after}
use Rattle.topo_model.specs.ArcUses.{AllNameArcs, NamesArcs, any_uses}
use Rattle.topo_model.specs.DraftUses.{left_names, object_uses, rings_name, shape_uses, with_refs}
use Rattle.topo_model.specs.Marks.{also_set, names_arc}
use Rattle.topo_model.specs.Uses.{answers}
use Rattle.topo_model.proofs.Marked.{also_none, also_same, also_twice}
use Rattle.topo_model.proofs.Marks.{of_joined, of_tagged, of_rings}

-- ---- flags

pub marks : (p q : ℕ → Bool) (old new : List Bool) → ((n : ℕ) → q n ≡ p n) → new ≡ also_set p 0 old → new ≡ also_set q 0 old
marks p q old new same k = k ∙ also_same p q 0 old (λ n. sym (same n))

pub marks_none : (q : ℕ → Bool) (old : List Bool) → ((n : ℕ) → q n ≡ false) → old ≡ also_set q 0 old
marks_none q old none = sym (also_none q 0 old none)

-- a loop over elements, each of which is looked at by a state that goes on from element to element
module _ {S X : Type 0} (of : S → X → ℕ → Bool) (next : S → X → S) (all : S → List X → ℕ → Bool) (none : (s : S) (n : ℕ) → all s [] n ≡ false)
    (some : (s : S) (x : X) (xs : List X) (n : ℕ) → all s (x ∷ xs) n ≡ (of s x n || all (next s x) xs n)) where
  pub turns : (s t : S) (now new whole : List Bool) (xs : List X) (i : ℕ) (x : X) → i < length xs → x ≡ get_or xs i x → also_set (all s (drop i xs)) 0 now ≡ whole → new ≡ also_set (of s x) 0 now → t ≡ next s x
      → also_set (all t (drop (i + 1) xs)) 0 new ≡ whole
  turns s t now new whole xs i x lt is so marked to =
      let rest = drop (i + 1) xs in
      ap (λ u. also_set (all u rest) 0 new) to ∙ ap (also_set (all (next s x) rest) 0) marked ∙ also_twice (of s x) (all (next s x) rest) 0 now
      ∙ also_same (λ n. of s x n || all (next s x) rest n) (all s (x ∷ rest)) 0 now (λ n. sym (some s x rest n))
      ∙ ap (λ y. also_set (all s (y ∷ rest)) 0 now) is ∙ sym (at_drop_more (λ ys. also_set (all s ys) 0 now) xs i x lt) ∙ so

  pub ends : (s : S) (now whole : List Bool) (xs : List X) (i : ℕ) → length xs ≤ i → also_set (all s (drop i xs)) 0 now ≡ whole → now ≡ whole
  ends s now whole xs i le so = sym (also_none (all s []) 0 now (none s)) ∙ sym (ap (λ ys. also_set (all s ys) 0 now) (drop_all i xs le)) ∙ so

-- ---- what is left of lists

some_any : {A B : Type 0} (f : A → Option B) (p : B → Bool) (q : Option B → Bool) → q None ≡ false → ((b : B) → q (Some b) ≡ p b) → (xs : List A) → list_any p (some_of f xs) ≡ list_any (λ x. q (f x)) xs
some_any f p q none some [] = refl
some_any {A} {B} f p q none some (x ∷ xs) = one (f x) ∙ ap (λ b. q (f x) || b) (some_any f p q none some xs)
  where
    one : (o : Option B) → list_any p (with_some o (some_of f xs)) ≡ (q o || list_any p (some_of f xs))
    one None = sym (ap (λ b. b || list_any p (some_of f xs)) none)
    one (Some b) = sym (ap (λ c. c || list_any p (some_of f xs)) (some b))

module _ (n : ℕ) where
  abbrev left : Option TopoShape → Bool
  left o = any_uses (option_lines_and_rings o) n

  abbrev names : List ℤ → Bool
  names l = names_arc l n

  one_line : (o : Option (List ℤ)) → left (map_some g.Line o) ≡ left_names o n
  one_line None = refl
  one_line (Some l) = ap (λ bs. any_uses bs n) (lines_and_rings-line Point (List ℤ) l) ∙ or-false (names l)

  all_lines : (ls : List (List ℤ)) → left (unless_empty g.Lines ls) ≡ list_any names ls
  all_lines [] = refl
  all_lines (l ∷ ls) = ap (λ bs. any_uses bs n) (lines_and_rings-lines Point (List ℤ) (l ∷ ls)) ∙ of_tagged false n (l ∷ ls)

  one_area : (o : Option (List (List ℤ))) → left (map_some g.Area o) ≡ rings_name o n
  one_area None = refl
  one_area (Some rs) = ap (λ bs. any_uses bs n) (lines_and_rings-area Point (List ℤ) rs) ∙ of_tagged true n rs

  all_areas : (areas : List (List (List ℤ))) → left (unless_empty g.Areas areas) ≡ list_any (λ rs. list_any names rs) areas
  all_areas [] = refl
  all_areas (rs ∷ areas) = ap (λ bs. any_uses bs n) (lines_and_rings-areas Point (List ℤ) (rs ∷ areas)) ∙ of_rings n (rs ∷ areas)

  pub some_lines : (f : List ℤ → Option (List ℤ)) (ls : List (List ℤ)) → list_any (λ l. names_arc l n) (some_of f ls) ≡ list_any (λ l. left_names (f l) n) ls
  some_lines f = some_any f names (λ o. left_names o n) refl (λ l. refl)

  -- ---- by kind

  module _ (k : MarkedRefs) (way : Option (List ℕ)) where
    abbrev less : TopoShape → Option TopoShape
    less s = prune (λ p. p) k (marked s way)

    pub of_point : (p : Point) → left (less (g.Point p)) ≡ false
    of_point p = ap left (left-point (λ (p : Point). p) k p way) ∙ ap (λ bs. any_uses bs n) (lines_and_rings-point Point (List ℤ) p)

    pub of_points : (ps : List Point) → left (less (g.MultiPoint ps)) ≡ false
    of_points ps = ap left (left-points (λ (p : Point). p) k ps way) ∙ ap (λ bs. any_uses bs n) (lines_and_rings-points Point (List ℤ) (map (λ p. p) ps))

    pub of_line : (l : List ℤ) → left (less (g.Line l)) ≡ left_names (k false (unmarked l)) n
    of_line l = ap left (left-line (λ (p : Point). p) k l way) ∙ one_line (k false (unmarked l))

    pub of_lines : (ls : List (List ℤ)) → left (less (g.Lines ls)) ≡ list_any (λ l. left_names (k false (unmarked l)) n) ls
    of_lines ls = ap left (left-lines (λ (p : Point). p) k ls way) ∙ all_lines (some_of (λ l. k false (unmarked l)) ls) ∙ some_lines (λ l. k false (unmarked l)) ls

    pub of_area : (rs : List (List ℤ)) → left (less (g.Area rs)) ≡ rings_name (area_by (k true) (rings_marked rs way)) n
    of_area rs = ap left (left-area (λ (p : Point). p) k rs way) ∙ one_area (area_by (k true) (rings_marked rs way))

    pub of_areas : (areas : List (List (List ℤ))) → left (less (g.Areas areas)) ≡ list_any (λ rs. rings_name (area_by (k true) rs) n) (along rings_marked 0 areas way)
    of_areas areas =
        ap left (left-areas (λ (p : Point). p) k areas way) ∙ all_areas (some_of (area_by (k true)) (along rings_marked 0 areas way))
        ∙ some_any (area_by (k true)) (λ rs. list_any names rs) (λ o. rings_name o n) refl (λ rs. refl) (along rings_marked 0 areas way)

    pub of_group : (ss : List TopoShape) → left (less (g.Group ss)) ≡ list_any (λ s. left (prune (λ p. p) k s)) (along marked 0 ss way)
    of_group ss =
        let kept = some_of (prune (λ (p : Point). p) k) (along marked 0 ss way) in
        ap left (left-group (λ (p : Point). p) k ss way) ∙ ap (λ bs. any_uses bs n) (lines_and_rings-group Point (List ℤ) kept)
        ∙ of_joined lines_and_rings n kept ∙ some_any (prune (λ (p : Point). p) k) (λ s. any_uses (lines_and_rings s) n) left refl (λ s. refl) (along marked 0 ss way)

-- those of a shape, by what is left of it at its kind
module _ (k : MarkedRefs) (way : Option (List ℕ)) (s t : TopoShape) (is : s ≡ t) (old new : List Bool) where
  abbrev uses : ℕ → Bool
  uses = shape_uses k way (Some s)

  pub at_none : ((n : ℕ) → shape_uses k way (Some t) n ≡ false) → old ≡ also_set (shape_uses k way (Some s)) 0 old
  at_none none = marks_none uses old (λ n. ap (λ s. shape_uses k way (Some s) n) is ∙ none n)

  pub at_kind : (p : ℕ → Bool) → ((n : ℕ) → shape_uses k way (Some t) n ≡ p n) → new ≡ also_set p 0 old → new ≡ also_set (shape_uses k way (Some s)) 0 old
  at_kind p same = marks p uses old new (λ n. ap (λ s. shape_uses k way (Some s) n) is ∙ same n)

-- ---- a polygon, by its outer ring

pub no_rings : (r : Refs) (way : Option (List ℕ)) (rs : List (List ℤ)) → length rs ≡ 0 → (n : ℕ) → rings_name (area_by (sparing r true) (rings_marked rs way)) n ≡ false
no_rings r way [] e n = refl
no_rings r way (o ∷ holes) e n = absurd (omega (arith, e))

module _ (r : Refs) (way : Option (List ℕ)) (o : List ℤ) (holes : List (List ℤ)) where
  abbrev rings : Option (List (List ℤ))
  rings = area_by (sparing r true) (rings_marked (o ∷ holes) way)

  pub with_outer : sparing r true (ends_here way, o) ≡ Some o → (n : ℕ) → rings_name (area_by (sparing r true) (rings_marked (o ∷ holes) way)) n ≡ (names_arc o n || list_any (λ l. left_names (r true l) n) holes)
  with_outer stays n =
      ap (λ x. rings_name (map_some (λ m. m ∷ some_of (sparing r true) (map unmarked holes)) x) n) stays
      ∙ ap (λ ls. names_arc o n || list_any (λ l. names_arc l n) ls) (some_made unmarked (sparing r true) holes) ∙ ap (λ b. names_arc o n || b) (some_lines n (r true) holes)

  pub without_outer : sparing r true (ends_here way, o) ≡ None → (n : ℕ) → rings_name (area_by (sparing r true) (rings_marked (o ∷ holes) way)) n ≡ false
  without_outer goes n = ap (λ x. rings_name (map_some (λ m. m ∷ some_of (sparing r true) (map unmarked holes)) x) n) goes

-- ---- features and objects

module _ (k : MarkedRefs) where
  abbrev pub features_use : Ways → List TopoFeature → ℕ → Bool
  features_use ways fs = any_uses (features_lines_and_rings (by_ways (feature_along k) ways fs))

  pub features_more : (ways : Ways) (f : TopoFeature) (fs : List TopoFeature) (n : ℕ) → features_use ways (f ∷ fs) n ≡ (shape_uses k (first_way ways) f.shape n || features_use (tail ways) fs n)
  features_more ways f fs n = list_any-append (λ b. names_arc b.1 n) (option_lines_and_rings (feature_along k (first_way ways) f).shape) (features_lines_and_rings (by_ways (feature_along k) (tail ways) fs))

  pub one_feature : (ways : Ways) (f : TopoFeature) (n : ℕ) → any_uses (features_lines_and_rings (feature_along k (first_way ways) f ∷ [])) n ≡ shape_uses k (first_way ways) f.shape n
  one_feature ways f n = features_more ways f [] n ∙ or-false (shape_uses k (first_way ways) f.shape n)

  pub objects_more : (ways : Ways) (o : List ℕ × TopoObject) (os : List (List ℕ × TopoObject)) (n : ℕ) → is_used (objects_along k ways (o ∷ os)) n ≡ (object_uses k ways o.1 n || is_used (objects_along k (ways_after ways (object_features o.1)) os) n)
  objects_more ways o os n = list_any-append (λ b. names_arc b.1 n) (features_lines_and_rings (object_features (object_along k ways o.1))) (objects_lines_and_rings (objects_along k (ways_after ways (object_features o.1)) os))

-- ---- objects in which each line and ring has an index

has_refs : (b : Bool × List ℤ) → is_some_list b.1 ≡ true → with_refs b.0 b.1 ≡ Some b.1
has_refs (closed, []) h = absurd cc
has_refs (closed, r ∷ refs) h = refl

each_again : (bs : List (Bool × List ℤ)) → map (λ b. (b.0, b.1)) bs ≡ bs
each_again [] = refl
each_again ((closed, l) ∷ bs) = ap (λ cs. (closed, l) ∷ cs) (each_again bs)

abbrev as_they_are : Refs
as_they_are closed refs = Some refs

-- they use what is left of them as a draft
pub all_used : (n count : ℕ) (os : List (List ℕ × TopoObject)) → AllNameArcs n os → answers (is_used (objects_pruned with_refs os)) 0 count ≡ answers (is_used os) 0 count
all_used n count os h =
    let bs = objects_lines_and_rings os in
    ap (λ (cs : List (Bool × List ℤ)). answers (λ i. list_any (λ b. names_arc b.1 i) cs) 0 count)
    (ap objects_lines_and_rings
    (sym (objects_then as_they_are with_refs with_refs os (all_hold (λ b. with_refs b.0 b.1 ≡ with_refs b.0 b.1) (λ b. refl) bs))
    ∙ objects_then as_they_are with_refs as_they_are os (all_weaker (NamesArcs n) (λ b. with_refs b.0 b.1 ≡ Some b.1) (λ b k. has_refs b k.1) bs h))
    ∙ objects_replaced (λ refs. refs) os ∙ each_again bs)
