-- Objects whose features have ways: where these lead to protected rings, and where there are none.
use Rattle.std.proofs.Common.{◌≡◌, ℕ, List, [], ◌∷◌, ◌++◌, map, drop, length, Option, None, Some, inl, inr, refl, sym, ap, ◌∙◌}
use Rattle.std.specs.List.{AllByRecursion}
use Rattle.std.proofs.Math.Path.{fun_ext}
use Rattle.std.proofs.Math.Seq.{drop-nil, drop-append_seam}
use Rattle.std.proofs.lemmas.List.{length-map, map-append}
use Rattle.geometry.specs.Lists.{joined, map_some, tail, then_some}
use Rattle.geometry.specs.Points.{Point}
use Rattle.geometry.specs.Pruning.{prune}
use Rattle.build_meaning.specs.OuterRings.{marked}
use Rattle.build_meaning.specs.Protected.{Protection, no_protection, MarkedRefs, sparing, shape_marked, feature_spared, object_spared, objects_spared}
use Rattle.build_meaning.specs.Simplified.{Refs, object_pruned, objects_pruned}
use Rattle.build_meaning.proofs.DroppableLines.{map_map}
use Rattle.build_meaning.proofs.Marks.{left_plain}
use Rattle.owned_values.proofs.Elements.{all_left, all_right}
use Rattle.topojson_types.specs.declared.feature.TopoFeature.{TopoFeature}
use Rattle.topojson_types.specs.declared.object.TopoObject.{TopoObject}
use Rattle.topojson_types.specs.declared.object.TopoObject.TheVariants.{One, Many}
use Rattle.topojson_types.specs.Topologies.{TopoShape, object_features}
use Rattle.topo_model.specs.Along.{Ways, first_way, by_ways, ways_after, by_object, feature_along, feature_placed, feature_placed_along, object_along, object_placed, object_placed_along, objects_along, objects_placed, objects_placed_along, AreWays}
use Rattle.topo_model.specs.Ways.{way_of, ways_of}
use Rattle.topo_model.proofs.Stepped as stepped

-- ---- lists

pub alike : {A B : Type 0} (f g : A → B) → ((x : A) → f x ≡ g x) → (xs : List A) → map f xs ≡ map g xs
alike f g same xs = ap (λ h. map h xs) (fun_ext same)

-- what is made of what is made of each element
pub fused : {A B C : Type 0} (f : B → C) (g : A → B) (h : A → C) → ((x : A) → f (g x) ≡ h x) → (xs : List A) → map f (map g xs) ≡ map h xs
fused f g h same xs = map_map f g xs ∙ alike (λ x. f (g x)) h same xs

-- what holds of all elements of the parts holds of those of each
pub each_part : {A B : Type 0} (X : B → Type 0) (f : A → List B) (xs : List A) → AllByRecursion X (joined (map f xs)) → AllByRecursion (λ x. AllByRecursion X (f x)) xs
each_part X f [] h = tt
each_part X f (x ∷ xs) h = (all_left X (f x) (joined (map f xs)) h, each_part X f xs (all_right X (f x) (joined (map f xs)) h))

-- ---- the ways that are left

pub ways_step : {A : Type 0} (ways : Ways) (x : A) (xs : List A) → ways_after ways (x ∷ xs) ≡ ways_after (tail ways) xs
ways_step [] x xs = sym (drop-nil (length xs))
ways_step (way ∷ ways) x xs = refl

module _ {A B : Type 0} (make : Option (List ℕ) → A → B) where
  pub by_given : (way : A → Option (List ℕ)) (xs : List A) (more : Ways) → by_ways make (map way xs ++ more) xs ≡ map (λ x. make (way x) x) xs
  by_given way [] more = refl
  by_given way (x ∷ xs) more = ap (λ ys. make (way x) x ∷ ys) (by_given way xs more)

  pub by_none : (xs : List A) → by_ways make [] xs ≡ map (make None) xs
  by_none [] = refl
  by_none (x ∷ xs) = ap (λ ys. make None x ∷ ys) (by_none xs)

-- a loop that goes on from way to way
module _ {A : Type 0} (make : Option (List ℕ) → A → A) where
  pub steps_are : (ways : Ways) (xs : List A) → stepped.all (λ w x. make (first_way w) x) (λ w x. tail w) ways xs ≡ by_ways make ways xs
  steps_are ways [] = refl
  steps_are ways (x ∷ xs) = ap (λ ys. make (first_way ways) x ∷ ys) (steps_are (tail ways) xs)

  pub state_is : (ways : Ways) (xs : List A) → stepped.after (λ w x. make (first_way w) x) (λ w x. tail w) ways xs ≡ ways_after ways xs
  state_is ways [] = refl
  state_is ways (x ∷ xs) = state_is (tail ways) xs ∙ sym (ways_step ways x xs)

after_given : {A : Type 0} (way : A → Option (List ℕ)) (xs : List A) (more : Ways) → ways_after (map way xs ++ more) xs ≡ more
after_given way xs more = ap (λ n. drop n (map way xs ++ more)) (sym (length-map xs way)) ∙ drop-append_seam (map way xs) more

-- ---- objects

abbrev pub Objects : Type 0
Objects = List (List ℕ × TopoObject)

pub object_steps_are : (make : Ways → List ℕ × TopoObject → List ℕ × TopoObject) (ways : Ways) (os : Objects) → stepped.all make (λ w o. ways_after w (object_features o.1)) ways os ≡ by_object make ways os
object_steps_are make ways [] = refl
object_steps_are make ways (o ∷ os) = ap (λ ys. make ways o ∷ ys) (object_steps_are make (ways_after ways (object_features o.1)) os)

module _ {B : Type 0} (make : Ways → List ℕ × TopoObject → B) (made : List ℕ × TopoObject → B) where
  objects_given : (protects : Protection) → ((o : List ℕ × TopoObject) (more : Ways) → make (map (way_of protects) (object_features o.1) ++ more) o ≡ made o) → (os : Objects) → by_object make (ways_of protects os) os ≡ map made os
  objects_given protects each [] = refl
  objects_given protects each (o ∷ os) =
      let split : ways_of protects (o ∷ os) ≡ map (way_of protects) (object_features o.1) ++ ways_of protects os = map-append (way_of protects) (object_features o.1) (joined (map (λ o. object_features o.1) os)) in
      ap (λ ways. make ways o ∷ by_object make (ways_after ways (object_features o.1)) os) split
      ∙ ap (λ y. y ∷ by_object make (ways_after (map (way_of protects) (object_features o.1) ++ ways_of protects os) (object_features o.1)) os) (each o (ways_of protects os))
      ∙ ap (λ ways. made o ∷ by_object make ways os) (after_given (way_of protects) (object_features o.1) (ways_of protects os))
      ∙ ap (λ ys. made o ∷ ys) (objects_given protects each os)

  objects_none : ((o : List ℕ × TopoObject) → make [] o ≡ made o) → (os : Objects) → by_object make [] os ≡ map made os
  objects_none each [] = refl
  objects_none each (o ∷ os) = ap (λ ways. make [] o ∷ by_object make ways os) (drop-nil (length (object_features o.1))) ∙ ap (λ y. y ∷ by_object make [] os) (each o) ∙ ap (λ ys. made o ∷ ys) (objects_none each os)

  pub objects_by : (protects : Protection) (ways : Ways) (os : Objects) → AreWays protects ways os → ((o : List ℕ × TopoObject) (more : Ways) → make (map (way_of protects) (object_features o.1) ++ more) o ≡ made o)
      → (protects ≡ no_protection → (o : List ℕ × TopoObject) → make [] o ≡ made o) → by_object make ways os ≡ map made os
  objects_by protects ways os (inl are) each none = ap (λ w. by_object make w os) are ∙ objects_given protects each os
  objects_by protects ways os (inr are) each none = ap (λ w. by_object make w os) are.1 ∙ objects_none (none are.0) os

-- ---- what is left of them

module _ (protects : Protection) (kept : MarkedRefs) where
  abbrev shape_along : Option (List ℕ) → Option TopoShape → Option TopoShape
  shape_along way s = then_some (λ s. prune (λ (p : Point). p) kept (marked s way)) s

  shape_is : (s : Option TopoShape) → shape_along (map_some (λ x. x.path) (then_some protects s)) s ≡ then_some (λ s. prune (λ (p : Point). p) kept (shape_marked protects s)) s
  shape_is None = refl
  shape_is (Some s) = refl

  abbrev with_shape : TopoFeature → Option TopoShape → TopoFeature
  with_shape f s = record { id = f.id; properties = f.properties; shape = s }

  feature_is : (f : TopoFeature) → feature_along kept (way_of protects f) f ≡ feature_spared protects kept f
  feature_is f = ap (with_shape f) (shape_is f.shape)

  object_is : (o : TopoObject) (more : Ways) → object_along kept (map (way_of protects) (object_features o) ++ more) o ≡ object_spared protects kept o
  object_is (One f) more = ap One (feature_is f)
  object_is (Many fs) more = ap Many (by_given (feature_along kept) (way_of protects) fs more ∙ alike (λ f. feature_along kept (way_of protects f) f) (feature_spared protects kept) feature_is fs)

none_is : (s : Option TopoShape) → map_some (λ x. x.path) (then_some no_protection s) ≡ None
none_is None = refl
none_is (Some s) = refl

module _ (kept : MarkedRefs) where
  feature_none : (f : TopoFeature) → feature_along kept None f ≡ feature_spared no_protection kept f
  feature_none f = ap (λ way. feature_along kept way f) (sym (none_is f.shape)) ∙ feature_is no_protection kept f

  object_none : (o : TopoObject) → object_along kept [] o ≡ object_spared no_protection kept o
  object_none (One f) = ap One (feature_none f)
  object_none (Many fs) = ap Many (by_none (feature_along kept) fs ∙ alike (feature_along kept None) (feature_spared no_protection kept) feature_none fs)

-- of objects whose features have the ways to protected rings these are spared
pub objects_are : (protects : Protection) (kept : MarkedRefs) (ways : Ways) (os : Objects) → AreWays protects ways os → objects_along kept ways os ≡ objects_spared protects kept os
objects_are protects kept ways os are =
    objects_by (λ ways o. (o.0, object_along kept ways o.1)) (λ o. (o.0, object_spared protects kept o.1)) protects ways os are (λ o more. ap (λ p. (o.0, p)) (object_is protects kept o.1 more))
    (λ none o. ap (λ p. (o.0, p)) (object_none kept o.1 ∙ ap (λ p. object_spared p kept o.1) (sym none)))

-- without ways they are pruned, with the cells of points replaced
pub placed_plainly : (place : Point → Point) (k : Refs) (os : Objects) → objects_placed_along place (sparing k) [] os ≡ objects_placed place k os
placed_plainly place k = objects_none (λ ways o. (o.0, object_placed_along place (sparing k) ways o.1)) (λ o. (o.0, object_placed place k o.1)) (λ o. ap (λ p. (o.0, p)) (object_plainly o.1))
  where
    plainly : (s : Option TopoShape) → then_some (λ s. prune place (sparing k) (marked s None)) s ≡ then_some (prune place k) s
    plainly None = refl
    plainly (Some s) = left_plain place (sparing k) s

    feature_plainly : (f : TopoFeature) → feature_placed_along place (sparing k) None f ≡ feature_placed place k f
    feature_plainly f = ap (with_shape no_protection (sparing k) f) (plainly f.shape)

    object_plainly : (o : TopoObject) → object_placed_along place (sparing k) [] o ≡ object_placed place k o
    object_plainly (One f) = ap One (feature_plainly f)
    object_plainly (Many fs) = ap Many (by_none (feature_placed_along place (sparing k)) fs ∙ alike (feature_placed_along place (sparing k) None) (feature_placed place k) feature_plainly fs)

-- objects whose cells stay are the pruned ones
pub cells_stay : (k : Refs) (os : Objects) → objects_placed (λ p. p) k os ≡ objects_pruned k os
cells_stay k = alike (λ o. (o.0, object_placed (λ p. p) k o.1)) (λ o. (o.0, object_pruned k o.1)) (λ o. ap (λ p. (o.0, p)) (object_stays o.1))
  where
    object_stays : (o : TopoObject) → object_placed (λ p. p) k o ≡ object_pruned k o
    object_stays (One f) = refl
    object_stays (Many fs) = refl
