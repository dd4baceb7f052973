-- The grid over positions: from the least of their coordinates on, in the least step that serves.
use Rattle.std.proofs.Common.{◌≡◌, ℕ, ◌+◌, ◌-◌, ◌*◌, ◌≤◌, max, ℤ, pos, ◌+ℤ◌, ◌-ℤ◌, ◌≤ℤ◌, unsigned_abs, true, List, [], ◌∷◌, map, Option, None, Some, refl, ap, ◌∙◌, arith, inl, ◌⊎◌, subst, to_z, of_z, w64}
use Rattle.std.proofs.lemmas.Int.{ints, fold-int_min_bounds, fold-int_max_bounds}
use Rattle.std.proofs.lemmas.List.Elements.{recursion_from_All}
use Rattle.std.specs.Int.{int_min, int_max}
use Rattle.std.specs.List.{AllByRecursion, fold}
use Rattle.owned_values.proofs.Elements.{all_weaker, all_two, all_of_map, each_of}
use Rattle.geometry.specs.Lists.{In}
use Rattle.geometry.specs.Points.{Point, IsInput}
use Rattle.geometry.specs.Units.{input_limit}
use Rattle.grid_snap.specs.declared.axis.Axis.{Axis}
use Rattle.grid_snap.specs.declared.bounds.Bounds.{Bounds}
use Rattle.grid_snap.specs.Axes.{rounded_up, axis_over, Axes, covers, is_on, grid_over, count_limit, IsAxis, reach}
use Rattle.grid_snap.specs.Bounds.{widened_by, IsSpan, AreBounds}
use Rattle.grid_snap.specs.Laws.{IsLeast, IsOver, StepIsLeast, CoversAll, IsMade}
use Rattle.grid_snap.proofs.Settled.{on_from}
use Rattle.grid_snap.proofs.Widening.{bounds_from, bounds_are, bounds_of_input}
use Rattle.grid_snap.proofs.Spacing.{step_some, step_reaches, step_near, step_least}

-- ---- the least and the greatest of numbers

chosen_min : (a b : ℤ) → (int_min a b ≡ a) ⊎ (int_min a b ≡ b)
chosen_min a b = grind arith

chosen_max : (a b : ℤ) → (int_max a b ≡ a) ⊎ (int_max a b ≡ b)
chosen_max a b = grind arith

-- a fold of choices is one of the numbers
fold_in : (f : ℤ → ℤ → ℤ) → ((a b : ℤ) → (f a b ≡ a) ⊎ (f a b ≡ b)) → (a : ℤ) (xs : List ℤ) → In (fold f a xs) (a ∷ xs)
fold_in f e a [] = inl refl
fold_in f e a (x ∷ xs) = grind (arith, fold_in f e (f a x) xs)

least_of : (x : ℤ) (xs : List ℤ) → IsLeast (fold int_min x xs) (x ∷ xs)
least_of x xs =
    let b = fold-int_min_bounds x xs (fold int_min x xs) refl in
    record { among = fold_in int_min chosen_min x xs; below = (b.0, recursion_from_All _ xs b.1) }

above_of : (x : ℤ) (xs : List ℤ) → AllByRecursion (λ y. y ≤ℤ fold int_max x xs) (x ∷ xs)
above_of x xs = let b = fold-int_max_bounds x xs (fold int_max x xs) refl in (b.0, recursion_from_All _ xs b.1)

-- ---- one axis

farthest : (least greatest : ℤ) (m : ℕ) (length : ℕ) → IsSpan least greatest → m ≤ count_limit → length ≤ unsigned_abs (greatest -ℤ least) + m
    → (length ≤ 2 * input_limit + count_limit) × (unsigned_abs (least +ℤ pos length) ≤ reach)
farthest least greatest m length s few near = grind arith

pub axis_is : (count : ℕ) (least greatest : ℤ) → 2 ≤ count → count ≤ count_limit → IsSpan least greatest → IsAxis (axis_over count least greatest)
axis_is count least greatest some few s = grind (arith, farthest, step_near, step_some)

between_near : (least greatest x : ℤ) (length : ℕ) → least ≤ℤ x → x ≤ℤ greatest → unsigned_abs (greatest -ℤ least) ≤ length → unsigned_abs (x -ℤ least) ≤ length
between_near least greatest x length a b c = omega (arith, ints)

on_axis : (count : ℕ) (least greatest x : ℤ) → 2 ≤ count → least ≤ℤ x → x ≤ℤ greatest → is_on (axis_over count least greatest) x ≡ true
on_axis count least greatest x some a b = grind (arith, on_from, between_near, step_reaches)

before_end : (least greatest x : ℤ) (length : ℕ) → x ≤ℤ greatest → unsigned_abs (greatest -ℤ least) ≤ length → x ≤ℤ (least +ℤ pos length)
before_end least greatest x length a b = omega (arith, ints)

far_enough : (least greatest : ℤ) (length : ℕ) → least ≤ℤ greatest → greatest ≤ℤ (least +ℤ pos length) → unsigned_abs (greatest -ℤ least) ≤ length
far_enough least greatest length a b = omega (arith, ints)

through : (a b c : ℤ) → a ≤ℤ b → b ≤ℤ c → a ≤ℤ c
through a b c h k = omega (arith, ints)

-- the axis over numbers, of which the first is x
axis_over_is : (count : ℕ) (x : ℤ) (xs : List ℤ) → 2 ≤ count → IsOver count (x ∷ xs) (axis_over count (fold int_min x xs) (fold int_max x xs))
axis_over_is count x xs some =
    let least : ℤ = fold int_min x xs in
    let greatest : ℤ = fold int_max x xs in
    let d : ℕ = unsigned_abs (greatest -ℤ least) in
    let m : ℕ = count - 1 in
    let low : IsLeast least (x ∷ xs) = least_of x xs in
    let high : AllByRecursion (λ y. y ≤ℤ greatest) (x ∷ xs) = above_of x xs in
    let order : least ≤ℤ greatest = through least x greatest low.below.0 high.0 in
    record {
      first = low;
      last = refl;
      serves = record {
        apart = step_some (rounded_up d m);
        reaches = all_weaker (λ y. y ≤ℤ greatest) (λ y. y ≤ℤ (least +ℤ pos (m * max (rounded_up d m) 1)))
            (λ y h. before_end least greatest y (m * max (rounded_up d m) 1) h (step_reaches d m (omega arith))) (x ∷ xs) high;
      };
      least = λ step s. step_least d m step (omega arith) s.apart (far_enough least greatest (m * step) order
          (each_of (λ y. y ≤ℤ (least +ℤ pos (m * step))) (x ∷ xs) greatest s.reaches (fold_in int_max chosen_max x xs)));
    }

-- ---- the grid

same_axes : (g h : Axes) → ◌≡◌ {A = Option Axes} (Some g) (Some h) → g ≡ h
same_axes g h e = cc

none_some : {P : Type 0} (g : Axes) → ◌≡◌ {A = Option Axes} None (Some g) → P
none_some g e = cc

some_none : {P : Type 0} (g : Axes) → ◌≡◌ {A = Option Axes} (Some g) None → P
some_none g e = cc

cons_none : {P : Type 0} (p : Point) (ps : List Point) → ◌≡◌ {A = List Point} (p ∷ ps) [] → P
cons_none p ps e = cc

abbrev axes_of : ℕ → Point → List Point → Axes
axes_of count p ps = record {
  x = axis_over count (fold int_min p.x (map (λ q. q.x) ps)) (fold int_max p.x (map (λ q. q.x) ps));
  y = axis_over count (fold int_min p.y (map (λ q. q.y) ps)) (fold int_max p.y (map (λ q. q.y) ps));
}

pub step_least_of : StepIsLeast
step_least_of count [] some = ((λ _. refl, λ _. refl), λ g e. none_some g e)
step_least_of count (p ∷ ps) some = grind (arith, some_none, cons_none, same_axes, axis_over_is)

on_each : (count : ℕ) (coordinate : Point → ℤ) (p : Point) (ps : List Point) → 2 ≤ count
    → AllByRecursion (λ q. is_on (axis_over count (fold int_min (coordinate p) (map coordinate ps)) (fold int_max (coordinate p) (map coordinate ps))) (coordinate q) ≡ true) (p ∷ ps)
on_each count coordinate p ps some = grind (arith, all_two, on_axis count, all_of_map, least_of (coordinate p) (map coordinate ps), above_of (coordinate p) (map coordinate ps))

pub covers_all : CoversAll
covers_all count [] g some e = tt
covers_all count (p ∷ ps) g some e = subst (λ h. AllByRecursion (λ q. covers h q ≡ true) (p ∷ ps)) (same_axes (axes_of count p ps) g e)
    (all_two (λ q. is_on (axes_of count p ps).x q.x ≡ true) (λ q. is_on (axes_of count p ps).y q.y ≡ true) (λ q. covers (axes_of count p ps) q ≡ true)
    (λ q a b. rw (a, b) refl) (p ∷ ps) (on_each count (λ q. q.x) p ps some) (on_each count (λ q. q.y) p ps some))

bounds_here : (p : Point) (ps : List Point) → AllByRecursion IsInput (p ∷ ps) → AreBounds (bounds_from (record { left = p.x; right = p.x; bottom = p.y; top = p.y }) ps)
bounds_here p ps all = grind (arith, bounds_are (record { left = p.x; right = p.x; bottom = p.y; top = p.y }) ps, bounds_of_input None (p ∷ ps) tt all)

pub grid_made : IsMade
grid_made count [] g some few all e = none_some g e
grid_made count (p ∷ ps) g some few all e = grind (arith, bounds_here, same_axes, axis_is)

-- ---- the grid of bounds

abbrev axes_between : ℕ → Bounds → Axes
axes_between count b = record { x = axis_over count b.left b.right; y = axis_over count b.bottom b.top }

same_bounds : (b c : Bounds) → ◌≡◌ {A = Option Bounds} (Some b) (Some c) → b ≡ c
same_bounds b c e = cc

no_bounds : {P : Type 0} (b : Bounds) → ◌≡◌ {A = Option Bounds} None (Some b) → P
no_bounds b e = cc

pub none_over : (count : ℕ) (ps : List Point) → widened_by None ps ≡ None → grid_over count ps ≡ None
none_over count ps e = grind (arith, no_bounds, bounds_are)

pub over_bounds : (count : ℕ) (ps : List Point) (b : Bounds) → widened_by None ps ≡ Some b → grid_over count ps ≡ Some (axes_between count b)
over_bounds count ps b e = grind (arith, no_bounds, same_bounds, bounds_are)

-- ---- as they are passed

pub same_cast : (z : ℤ) → unsigned_abs z ≤ input_limit → to_z w64 (of_z w64 z) ≡ z
same_cast z h = omega (arith, ints, h)

pub axis_cast : (count : ℕ) (least greatest : ℤ) (a : Axis) → IsSpan least greatest
    → a ≡ axis_over count (to_z w64 (of_z w64 least)) (to_z w64 (of_z w64 greatest)) → a ≡ axis_over count least greatest
axis_cast count least greatest a s e = grind (arith, same_cast)

abbrev pair_of : Axis → Axis → Axes
pair_of a b = record { x = a; y = b }

pub both_axes : {a b c d : Axis} → a ≡ c → b ≡ d → pair_of a b ≡ pair_of c d
both_axes {b = b} {c = c} p q = ap (λ a. pair_of a b) p ∙ ap (pair_of c) q
