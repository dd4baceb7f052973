-- The least box around where cells lie, as it is widened by one cell after another.
use Rattle.std.proofs.Common.{◌≡◌, ℕ, ◌+◌, ◌<◌, ◌≤◌, ℤ, unsigned_abs, List, [], ◌∷◌, ◌++◌, map, length, get_or, drop, Option, None, Some, refl, sym, ap, ◌∙◌, arith, to_z, of_z, w64}
use Rattle.std.proofs.lemmas.Int.{ints, clamps}
use Rattle.std.proofs.lemmas.List.{at_drop_all, map-id}
use Rattle.std.specs.Int.{int_min, int_max}
use Rattle.std.specs.List.{AllByRecursion, fold}
use Rattle.owned_values.proofs.Elements.{all_append, all_joined, all_map, all_parts, all_weaker}
use Rattle.owned_values.proofs.Lists.{drop_here}
use Rattle.geometry.specs.Lists.{joined}
use Rattle.geometry.specs.Points.{Point, IsPosition}
use Rattle.geometry.specs.Units.{cell_limit, position_limit}
use Rattle.topojson_types.specs.declared.feature.TopoFeature.{TopoFeature}
use Rattle.topojson_types.specs.declared.object.TopoObject.{TopoObject}
use Rattle.topojson_types.specs.declared.object.TopoObject.TheVariants.{One, Many}
use Rattle.topojson_types.specs.declared.transform.Transform.{Transform}
use Rattle.topojson_types.specs.Bounds.{Corners, box, positions, bounds}
use Rattle.topojson_types.specs.Topologies.{TopoShape, Contents, object_features}
use Rattle.topojson_types.specs.Transforms.{place}
use Rattle.topojson_types.specs.Validity.{IsPlace, IsArc, IsFeature, IsObject, IsTopology, places, option_places, features_places, objects_places}
use Rattle.topojson_types.specs.Widening.{widened, widened_by}

-- ---- least and greatest numbers

min_within : (a x : ℤ) (bound : ℕ) → unsigned_abs a ≤ bound → unsigned_abs x ≤ bound → unsigned_abs (int_min a x) ≤ bound
min_within a x bound h k = omega (arith, ints, clamps, h, k)

max_within : (a x : ℤ) (bound : ℕ) → unsigned_abs a ≤ bound → unsigned_abs x ≤ bound → unsigned_abs (int_max a x) ≤ bound
max_within a x bound h k = omega (arith, ints, clamps, h, k)

-- as they are passed and taken
pub min_passed : (a x p q r : ℤ) → p ≡ a → q ≡ x → unsigned_abs p ≤ cell_limit → unsigned_abs q ≤ cell_limit
    → r ≡ int_min (to_z w64 (of_z w64 p)) (to_z w64 (of_z w64 q)) → to_z w64 (of_z w64 r) ≡ int_min a x
min_passed a x p q r e f h k is = omega (arith, ints, clamps, e, f, h, k, is)

pub max_passed : (a x p q r : ℤ) → p ≡ a → q ≡ x → unsigned_abs p ≤ cell_limit → unsigned_abs q ≤ cell_limit
    → r ≡ int_max (to_z w64 (of_z w64 p)) (to_z w64 (of_z w64 q)) → to_z w64 (of_z w64 r) ≡ int_max a x
max_passed a x p q r e f h k is = omega (arith, ints, clamps, e, f, h, k, is)

-- ---- loops

widened-append : (b : Option Corners) (cs ds : List Point) → widened_by b (cs ++ ds) ≡ widened_by (widened_by b cs) ds
widened-append b [] ds = refl
widened-append b (c ∷ cs) ds = widened-append (Some (widened b c)) cs ds

both : (b arcs all : Option Corners) (cs ds : List Point) → arcs ≡ widened_by b cs → all ≡ widened_by arcs ds → all ≡ widened_by b (cs ++ ds)
both b arcs all cs ds e f = f ∙ ap (λ z. widened_by z ds) e ∙ sym (widened-append b cs ds)

-- what comes of those that are left is what comes of all
pub record Left {A : Type 0} (cells : A → List Point) (xs : List A) (i : ℕ) (b all : Option Corners) : Type 0 where
  pub whole : widened_by all (joined (map cells (drop i xs))) ≡ widened_by b (joined (map cells xs))

pub turns : {A : Type 0} (cells : A → List Point) (xs : List A) (i : ℕ) (b all with_x : Option Corners) (x : A) → i < length xs → x ≡ get_or xs i x
    → Left cells xs i b all → with_x ≡ widened_by all (cells x) → Left cells xs (i + 1) b with_x
turns cells xs i b all with_x x h is so e =
    record {
      whole =
          ap (λ z. widened_by z (joined (map cells (drop (i + 1) xs)))) e
          ∙ sym (widened-append all (cells x) (joined (map cells (drop (i + 1) xs))))
          ∙ sym (ap (λ ys. widened_by all (joined (map cells ys))) (drop_here xs i x h is))
          ∙ so.whole;
    }

pub ends : {A : Type 0} (cells : A → List Point) (xs : List A) (i : ℕ) (b all : Option Corners) → length xs ≤ i → Left cells xs i b all
    → all ≡ widened_by b (joined (map cells xs))
ends cells xs i b all h so = sym (at_drop_all (λ ys. widened_by all (joined (map cells ys))) xs i h) ∙ so.whole

-- ---- lists of cells

pub one_by_one : (cs : List Point) → joined (map (λ c. c ∷ []) cs) ≡ cs
one_by_one [] = refl
one_by_one (c ∷ cs) = ap (λ ds. c ∷ ds) (one_by_one cs)

pub lists_of : (css : List (List Point)) → joined (map (λ cs. cs) css) ≡ joined css
lists_of css = ap joined (map-id css)

-- ---- shapes

pub of_kind : (b : Option Corners) (s t : TopoShape) (cs : List Point) (r : Option Corners) → s ≡ t → places t ≡ cs
    → r ≡ widened_by b cs → r ≡ widened_by b (places s)
of_kind b s t cs r is at e = e ∙ sym (ap (λ u. widened_by b (places u)) is ∙ ap (widened_by b) at)

-- ---- what the box is

abbrev from_corners : Corners → List Point → Corners
from_corners b ps =
    let xs = map (λ q. q.x) ps in
    let ys = map (λ q. q.y) ps in (
      record { x = fold int_min b.0.x xs; y = fold int_min b.0.y ys },
      record { x = fold int_max b.1.x xs; y = fold int_max b.1.y ys },
    )

box_from : (b : Corners) (cs : List Point) → widened_by (Some b) cs ≡ Some (from_corners b cs)
box_from b [] = refl
box_from b (c ∷ cs) = box_from (widened (Some b) c) cs

box_is : (cs : List Point) → widened_by None cs ≡ box cs
box_is [] = refl
box_is (c ∷ cs) = box_from (c, c) cs

-- the cells of a topology
abbrev pub cells_of : Contents → List Point
cells_of t = joined t.arcs ++ objects_places t.objects

pub found : (t : Contents) (arcs all : Option Corners) → arcs ≡ widened_by None (joined t.arcs) → all ≡ widened_by arcs (objects_places t.objects) → all ≡ box (cells_of t)
found t arcs all e f = both None arcs all (joined t.arcs) (objects_places t.objects) e f ∙ box_is (cells_of t)

-- ---- valid topologies

module _ (t : Contents) (is : IsTopology t) where
  arcs_there : AllByRecursion (IsPlace t.transform) (joined t.arcs)
  arcs_there = all_joined (IsPlace t.transform) t.arcs (all_weaker (IsArc t.transform) (AllByRecursion (IsPlace t.transform)) (λ cs h. h.1) t.arcs is.arcs)

  features_there : (fs : List TopoFeature) → AllByRecursion (IsFeature t.transform) fs → AllByRecursion (IsPlace t.transform) (features_places fs)
  features_there fs h =
      all_parts (IsPlace t.transform) (λ (f : TopoFeature). option_places f.shape) fs
      (all_weaker (IsFeature t.transform) (λ f. AllByRecursion (IsPlace t.transform) (option_places f.shape)) (λ f k. k.1) fs h)

  object_there : (o : TopoObject) → IsObject t.transform o → AllByRecursion (IsPlace t.transform) (features_places (object_features o))
  object_there (One f) h = features_there (f ∷ []) (h.0, tt)
  object_there (Many fs) h = features_there fs h

  objects_there : AllByRecursion (IsPlace t.transform) (objects_places t.objects)
  objects_there =
      all_parts (IsPlace t.transform) (λ (o : List ℕ × TopoObject). features_places (object_features o.1)) t.objects
      (all_weaker (λ (o : List ℕ × TopoObject). IsObject t.transform o.1) (λ o. AllByRecursion (IsPlace t.transform) (features_places (object_features o.1))) (λ o k. object_there o.1 k) t.objects is.objects)

  pub cells_there : AllByRecursion (IsPlace t.transform) (cells_of t)
  cells_there = all_append (IsPlace t.transform) (joined t.arcs) (objects_places t.objects) arcs_there objects_there

placed_is : (transform : Option Transform) (c : Point) → IsPlace transform c → IsPosition (place transform c)
placed_is None c h = h
placed_is (Some t) c h = h.1

pub positions_are : (t : Contents) → IsTopology t → AllByRecursion IsPosition (positions t)
positions_are t is =
    all_map IsPosition (place t.transform) (cells_of t)
    (all_weaker (IsPlace t.transform) (λ c. IsPosition (place t.transform c)) (placed_is t.transform) (cells_of t) (cells_there t is))

-- ---- its corners are positions

abbrev pub AreCorners : Option Corners → Type 0
AreCorners None = Unit {0}
AreCorners (Some b) = IsPosition b.0 × IsPosition b.1

corners_from : (b : Corners) (ps : List Point) → IsPosition b.0 → IsPosition b.1 → AllByRecursion IsPosition ps → AreCorners (Some (from_corners b ps))
corners_from b [] h k all = (h, k)
corners_from b (p ∷ ps) h k all =
    corners_from (widened (Some b) p) ps
    (min_within b.0.x p.x position_limit h.0 all.0.0, min_within b.0.y p.y position_limit h.1 all.0.1)
    (max_within b.1.x p.x position_limit k.0 all.0.0, max_within b.1.y p.y position_limit k.1 all.0.1)
    all.1

box_within : (ps : List Point) → AllByRecursion IsPosition ps → AreCorners (box ps)
box_within [] all = tt
box_within (p ∷ ps) all = corners_from (p, p) ps all.0 all.0 all.1

pub corners_are : (t : Contents) → IsTopology t → AreCorners (bounds t)
unfolding bounds
corners_are t is = box_within (positions t) (positions_are t is)
