-- The cell of a position that a grid covers, and of one that lies on it.
use Rattle.std.proofs.Common.{◌≡◌, ℕ, zero, suc, ◌<◌, ◌≤◌, ℤ, unsigned_abs, true, false, List, [], ◌∷◌, ◌++◌, map, length, get_or, take, drop, refl, ap, subst, ◌∙◌, arith, to_z, of_z, w64}
use Rattle.std.proofs.lemmas.Int.{to_z-of_z, fits_signed_from_abs}
use Rattle.std.specs.List.{AllByRecursion}
use Rattle.owned_values.proofs.Elements.{all_at}
use Rattle.geometry.proofs.Moved.{Replaced}
use Rattle.geometry.specs.Points.{Point, IsPosition}
use Rattle.geometry.specs.Units.{position_limit}
use Rattle.grid_snap.specs.Axes.{Axes, IsGrid, covers, cell}
use Rattle.grid_snap.proofs.Settled.{covered_within}
use Rattle.layer_topology.specs.Replacing.{cell_if_covered}

pub if_covered : (g : Axes) (p : Point) → covers g p ≡ true → cell_if_covered g p ≡ cell g p
if_covered g p h = rw h refl

pub if_not_covered : (g : Axes) (p : Point) → covers g p ≡ false → cell_if_covered g p ≡ p
if_not_covered g p h = rw h refl

-- what is no position isn't covered
pub if_no_position : (g : Axes) (p : Point) → IsGrid g → (IsPosition p → ⊥) → cell_if_covered g p ≡ p
if_no_position g p grid not_there = grind (arith, covered_within, if_not_covered)

-- a coordinate of a position, as it is passed
pub as_passed : (x z : ℤ) → x ≡ z → unsigned_abs z ≤ position_limit → unsigned_abs (to_z w64 (of_z w64 x)) ≤ position_limit
as_passed x z e h = grind (arith, fits_signed_from_abs)

-- ---- one that lies on the grid, as it is passed

pub is_position : (g : Axes) (p : Point) → IsGrid g → covers g p ≡ true → IsPosition p
is_position g p grid h = grind (arith, covered_within g p grid h)

read_back : (x z : ℤ) → x ≡ z → unsigned_abs z ≤ position_limit → to_z w64 (of_z w64 x) ≡ z
read_back x z e h = rw e (to_z-of_z w64 z (fits_signed_from_abs w64 z (omega (arith, h))))

abbrev point_of : ℤ → ℤ → Point
point_of x y = record { x = x; y = y }

pub passed_is : (p q : Point) (x y : ℤ) → IsPosition p → x ≡ p.x → y ≡ p.y → q ≡ point_of (to_z w64 (of_z w64 x)) (to_z w64 (of_z w64 y)) → q ≡ p
passed_is p q x y within e f is =
    is ∙ ap (λ z. point_of z (to_z w64 (of_z w64 y))) (read_back x p.x e within.0) ∙ ap (point_of p.x) (read_back y p.y f within.1)

-- ---- the element that a loop which replaces each comes to is as it was

got_here : {A : Type 0} (f : A → A) (xs : List A) (i : ℕ) (d : A) → get_or (map f (take i xs) ++ drop i xs) i d ≡ get_or xs i d
got_here f [] zero d = refl
got_here f [] (suc i) d = refl
got_here f (x ∷ xs) zero d = refl
got_here f (x ∷ xs) (suc i) d = got_here f xs i d

pub still_here : {A : Type 0} (X : A → Type 0) (f : A → A) (xs : List A) (i : ℕ) (ys : List A) (x : A) → i < length xs → Replaced f xs i ys → x ≡ get_or ys i x
    → AllByRecursion X xs → X (get_or ys i x)
still_here X f xs i ys x within so is all = subst X is (all_at X xs i x within (is ∙ ap (λ zs. get_or zs i x) so.made ∙ got_here f xs i x) all)
