-- The least and the greatest coordinates of positions, in the order in which they are looked at.
use Rattle.std.proofs.Common.{rules, ◌≡◌, ℕ, ◌+◌, ◌<◌, ◌≤◌, ℤ, unsigned_abs, List, [], ◌∷◌, ◌++◌, map, length, get_or, drop, Option, None, Some, refl, sym, ap, ◌∙◌, arith, FitsSigned, to_z, of_z, w64}
use Rattle.std.proofs.lemmas.Int.{ints, clamps}
use Rattle.std.proofs.lemmas.List.{at_drop_all, map-id}
use Rattle.std.specs.Int.{int_min, int_max}
use Rattle.std.specs.List.{AllByRecursion, fold}
use Rattle.owned_values.proofs.Lists.{drop_here, joined_append}
use Rattle.geojson_types.specs.Features.{Shape}
use Rattle.geometry.specs.Lists.{joined}
use Rattle.geojson_types.specs.Places.{shape_points}
use Rattle.geometry.specs.Points.{Point, IsInput}
use Rattle.geometry.specs.Units.{input_limit}
use Rattle.grid_snap.specs.declared.bounds.Bounds.{Bounds}
use Rattle.grid_snap.specs.Bounds.{widened, widened_by, IsSpan, AreBounds, AreBoundsIfSome}

pub widened-append : (b : Option Bounds) (ps qs : List Point) → widened_by b (ps ++ qs) ≡ widened_by (widened_by b ps) qs
widened-append b [] qs = refl
widened-append b (p ∷ ps) qs = widened-append (Some (widened b p)) ps qs

-- ---- loops

-- what comes of those that are left is what comes of all
pub record Left {A : Type 0} (points : A → List Point) (xs : List A) (i : ℕ) (b all : Option Bounds) : Type 0 where
  pub whole : widened_by all (joined (map points (drop i xs))) ≡ widened_by b (joined (map points xs))

pub starts : {A : Type 0} (points : A → List Point) (xs : List A) (b : Option Bounds) → Left points xs 0 b b
starts points xs b = grind arith

pub turns : {A : Type 0} (points : A → List Point) (xs : List A) (i : ℕ) (b all with_x : Option Bounds) (x : A) → i < length xs → x ≡ get_or xs i x
    → Left points xs i b all → with_x ≡ widened_by all (points x) → Left points xs (i + 1) b with_x
turns points xs i b all with_x x h is so e = grind (arith, widened-append, drop_here)

pub ends : {A : Type 0} (points : A → List Point) (xs : List A) (i : ℕ) (b all : Option Bounds) → length xs ≤ i → Left points xs i b all
    → all ≡ widened_by b (joined (map points xs))
ends points xs i b all h so = sym (at_drop_all (λ ys. widened_by all (joined (map points ys))) xs i h) ∙ so.whole

-- ---- lists of positions

pub singles : (ps : List Point) → joined (map (λ p. p ∷ []) ps) ≡ ps
singles [] = refl
singles (p ∷ ps) = ap (λ qs. p ∷ qs) (singles ps)

pub lists_of : (pss : List (List Point)) → joined (map (λ ps. ps) pss) ≡ joined pss
lists_of pss = ap joined (map-id pss)

pub nested : (psss : List (List (List Point))) → joined (map joined psss) ≡ joined (joined psss)
nested [] = refl
nested (pss ∷ psss) = ap (λ qs. joined pss ++ qs) (nested psss) ∙ sym (joined_append pss (joined psss))

-- ---- as they are passed

pub min_cast : (a x r : ℤ) → FitsSigned w64 a → FitsSigned w64 x → r ≡ int_min (to_z w64 (of_z w64 a)) (to_z w64 (of_z w64 x)) → to_z w64 (of_z w64 r) ≡ int_min a x
min_cast a x r f g e = omega (arith, ints, clamps, f, g, e)

pub max_cast : (a x r : ℤ) → FitsSigned w64 a → FitsSigned w64 x → r ≡ int_max (to_z w64 (of_z w64 a)) (to_z w64 (of_z w64 x)) → to_z w64 (of_z w64 r) ≡ int_max a x
max_cast a x r f g e = omega (arith, ints, clamps, f, g, e)

-- ---- shapes

pub of_kind : (b : Option Bounds) (s t : Shape) (ps : List Point) (r : Option Bounds) → s ≡ t → shape_points t ≡ ps → r ≡ widened_by b ps → r ≡ widened_by b (shape_points s)
of_kind b s t ps r is at e = e ∙ sym (ap (λ u. widened_by b (shape_points u)) is ∙ ap (widened_by b) at)

-- ---- what the bounds are

abbrev pub bounds_from : Bounds → List Point → Bounds
bounds_from b ps =
    let xs = map (λ q. q.x) ps in
    let ys = map (λ q. q.y) ps in
    record { left = fold int_min b.left xs; right = fold int_max b.right xs; bottom = fold int_min b.bottom ys; top = fold int_max b.top ys }

pub bounds_are : (b : Bounds) (ps : List Point) → widened_by (Some b) ps ≡ Some (bounds_from b ps)
bounds_are b [] = refl
bounds_are b (p ∷ ps) = bounds_are (widened (Some b) p) ps

-- ---- bounds of input

span_of : (x : ℤ) → unsigned_abs x ≤ input_limit → IsSpan x x
span_of x h = record { order = omega (arith, ints); low = h; high = h }

span_with : (least greatest x : ℤ) → IsSpan least greatest → unsigned_abs x ≤ input_limit → IsSpan (int_min least x) (int_max greatest x)
span_with least greatest x s h = grind arith

with_position : (b : Option Bounds) (p : Point) → AreBoundsIfSome b → IsInput p → AreBounds (widened b p)
with_position b p h i = search (rules, span_of, span_with)

pub bounds_of_input : (b : Option Bounds) (ps : List Point) → AreBoundsIfSome b → AllByRecursion IsInput ps → AreBoundsIfSome (widened_by b ps)
bounds_of_input b [] h all = h
bounds_of_input b (p ∷ ps) h all = bounds_of_input (Some (widened b p)) ps (with_position b p h all.0) all.1

-- ---- in another order

min_swap : (a x y : ℤ) → int_min (int_min a x) y ≡ int_min (int_min a y) x
min_swap a x y = omega (arith, ints, clamps)

max_swap : (a x y : ℤ) → int_max (int_max a x) y ≡ int_max (int_max a y) x
max_swap a x y = omega (arith, ints, clamps)

min_turn : (x y : ℤ) → int_min x y ≡ int_min y x
min_turn x y = omega (arith, ints, clamps)

max_turn : (x y : ℤ) → int_max x y ≡ int_max y x
max_turn x y = omega (arith, ints, clamps)

swapped : (b : Option Bounds) (p q : Point) → widened (Some (widened b p)) q ≡ widened (Some (widened b q)) p
swapped None p q = rw (min_turn p.x q.x, max_turn p.x q.x, min_turn p.y q.y, max_turn p.y q.y) refl
swapped (Some b) p q = rw (min_swap b.left p.x q.x, max_swap b.right p.x q.x, min_swap b.bottom p.y q.y, max_swap b.top p.y q.y) refl

later : (b : Option Bounds) (p : Point) (qs : List Point) → widened_by (Some (widened b p)) qs ≡ Some (widened (widened_by b qs) p)
later b p [] = refl
later b p (q ∷ qs) = ap (λ w. widened_by (Some w) qs) (swapped b p q) ∙ later (Some (widened b q)) p qs

pub in_turn : (b : Option Bounds) (ps qs : List Point) → widened_by (widened_by b ps) qs ≡ widened_by (widened_by b qs) ps
in_turn b [] qs = refl
in_turn b (p ∷ ps) qs = in_turn (Some (widened b p)) ps qs ∙ ap (λ w. widened_by w ps) (later b p qs)
