-- What the tests on positions decide, and what makes them pass.
use Rattle.std.proofs.Common.{◌≡◌, ◌≢◌, Bool, true, false, not, ◌&&◌, ◌||◌, ℤ, pos, int_lt, ◌-ℤ◌, ◌*ℤ◌, ◌+ℤ◌, ◌<ℤ◌, ◌≤ℤ◌, ◌⊎◌, refl, ap, sym, ◌∙◌, arith}
use Rattle.guarded_meaning.proofs.Names.{Decides-int_eq, ints, *ℤ_comm, zero-*ℤ, sub_times_sub, cross, Point, is_flat, is_between, is_on, none_right, none_left, in_triangle}
use Rattle.guarded_meaning.proofs.Crosses.{turned, three_ways, three_ways_up, cross_is, cross_round}
use Rattle.guarded_meaning.proofs.Signs.{on_sides}

-- ---- numbers

pub lt_says : (x y : ℤ) → int_lt x y ≡ true → (x <ℤ y)
lt_says x y h = omega (arith, ints, h)

pub lt_denied : (x y : ℤ) → int_lt x y ≡ false → (y ≤ℤ x)
lt_denied x y h = omega (arith, ints, h)

-- on the way from one number to another
abbrev pub Between : ℤ → ℤ → ℤ → Type 0
Between x y z = ((x ≤ℤ z) × (z ≤ℤ y)) ⊎ ((y ≤ℤ z) × (z ≤ℤ x))

pub between_says : (x y z : ℤ) → is_between x y z ≡ true → Between x y z
between_says x y z h = grind (arith, ints)

between_passes : (x y z : ℤ) → (((x -ℤ z) ≤ℤ pos 0) × (pos 0 ≤ℤ (y -ℤ z))) ⊎ ((pos 0 ≤ℤ (x -ℤ z)) × ((y -ℤ z) ≤ℤ pos 0)) → is_between x y z ≡ true
between_passes x y z h = grind (arith, ints)

-- ---- a position on a line, and on the segment

-- how far the first of two positions is from a line, more than the second
way_turned : (w x p q : Point) → turned (x.x -ℤ w.x) (x.y -ℤ w.y) (p.x -ℤ q.x) (p.y -ℤ q.y) ≡ cross w x p -ℤ cross w x q
way_turned w x p q = omega (
  arith,
  ints,
  sub_times_sub x.x w.x p.y q.y,
  sub_times_sub p.x q.x x.y w.y,
  cross_is w x p,
  cross_is w x q,
)

turned_back : (ax ay bx by : ℤ) → turned ax ay bx by +ℤ turned bx by ax ay ≡ pos 0
turned_back ax ay bx by = omega (arith, ints, *ℤ_comm ax by, *ℤ_comm bx ay)

pub cross_ways : (q u v : Point) → cross q u v ≡ turned (u.x -ℤ q.x) (u.y -ℤ q.y) (v.x -ℤ q.x) (v.y -ℤ q.y)
unfolding cross
cross_ways q u v = refl

-- two numbers weighed, where the third's weight is nothing
two_left : (k l m x y z : ℤ) → k *ℤ x +ℤ (l *ℤ y +ℤ m *ℤ z) ≡ pos 0 → m ≡ pos 0 → x *ℤ k +ℤ y *ℤ l ≡ pos 0
two_left k l m x y z e n = omega (arith, ints, e, *ℤ_comm k x, *ℤ_comm l y, ap (λ i. i *ℤ z) n ∙ zero-*ℤ z)

-- two ways on one line, to either side of a third, are on either side of nothing
on_either : (ux uy vx vy wx wy : ℤ) → turned ux uy vx vy ≡ pos 0 → (pos 0 <ℤ turned vx vy wx wy) → (pos 0 <ℤ turned wx wy ux uy) →
    (((ux ≤ℤ pos 0) × (pos 0 ≤ℤ vx)) ⊎ ((pos 0 ≤ℤ ux) × (vx ≤ℤ pos 0))) × (((uy ≤ℤ pos 0) × (pos 0 ≤ℤ vy)) ⊎ ((pos 0 ≤ℤ uy) × (vy ≤ℤ pos 0)))
on_either ux uy vx vy wx wy n h k = (
  on_sides ux vx (turned vx vy wx wy) (turned wx wy ux uy) (two_left (turned vx vy wx wy) (turned wx wy ux uy) (turned ux uy vx vy) ux vx wx (three_ways ux uy vx vy wx wy) n) h k,
  on_sides uy vy (turned vx vy wx wy) (turned wx wy ux uy) (two_left (turned vx vy wx wy) (turned wx wy ux uy) (turned ux uy vx vy) uy vy wy (three_ways_up ux uy vx vy wx wy) n) h k,
)

-- where a line separates two positions, one between them on their line is on their segment
pub on_passes : (u v q w x : Point) → cross u v q ≡ pos 0 → (cross w x q <ℤ cross w x u) → (cross w x v <ℤ cross w x q) → is_on u v q ≡ true
unfolding is_on
on_passes u v q w x line one other =
    let m = on_either (u.x -ℤ q.x) (u.y -ℤ q.y) (v.x -ℤ q.x) (v.y -ℤ q.y) (x.x -ℤ w.x) (x.y -ℤ w.y) (sym (cross_ways q u v) ∙ cross_round q u v ∙ line)
    (omega (arith, ints, way_turned w x v q, other, turned_back (x.x -ℤ w.x) (x.y -ℤ w.y) (v.x -ℤ q.x) (v.y -ℤ q.y))) (omega (arith, ints, way_turned w x u q, one)) in
    rw ((Decides-int_eq (cross u v q) (pos 0)).1 line, between_passes u.x v.x q.x m.0, between_passes u.y v.y q.y m.1) refl

-- ---- one of four

pub one_of : (w x y z : Bool) → (w || (x || (y || z))) ≡ true → (w ≡ true) ⊎ ((x ≡ true) ⊎ ((y ≡ true) ⊎ (z ≡ true)))
one_of w x y z h = grind arith

pub from_one : (w x y z : Bool) → (w ≡ true) ⊎ ((x ≡ true) ⊎ ((y ≡ true) ⊎ (z ≡ true))) → (w || (x || (y || z))) ≡ true
from_one w x y z h = grind arith

-- ---- a triangle

-- it isn't flat, and the position is beyond none of its sides
abbrev pub is_inner : Point → Point → Point → Point → Bool
is_inner a p c q = not (is_flat a p c) && (none_right a p c q || none_left a p c q)

abbrev pub OneSign : ℤ → ℤ → ℤ → Type 0
OneSign j k l = ((pos 0 ≤ℤ j) × (pos 0 ≤ℤ k) × (pos 0 ≤ℤ l)) ⊎ ((j ≤ℤ pos 0) × (k ≤ℤ pos 0) × (l ≤ℤ pos 0))

abbrev pub IsInner : Point → Point → Point → Point → Type 0
IsInner a p c q = (cross a p c ≢ pos 0) × OneSign (cross a p q) (cross p c q) (cross c a q)

pub inner_says : (a p c q : Point) → is_inner a p c q ≡ true → IsInner a p c q
inner_says a p c q h = grind (arith, ints, Decides-int_eq)

pub inner_passes : (a p c q : Point) → IsInner a p c q → is_inner a p c q ≡ true
inner_passes a p c q h = grind (arith, ints, Decides-int_eq)

-- it holds the position: on a side, or within it
abbrev pub Has : Point → Point → Point → Point → Type 0
Has a p c q = (is_on a c q ≡ true) ⊎ ((is_on a p q ≡ true) ⊎ ((is_on p c q ≡ true) ⊎ (is_inner a p c q ≡ true)))

pub has_says : (a p c q : Point) → in_triangle a p c q ≡ true → Has a p c q
unfolding in_triangle
has_says a p c q h = one_of (is_on a c q) (is_on a p q) (is_on p c q) (is_inner a p c q) h

pub has_passes : (a p c q : Point) → Has a p c q → in_triangle a p c q ≡ true
unfolding in_triangle
has_passes a p c q h = from_one (is_on a c q) (is_on a p q) (is_on p c q) (is_inner a p c q) h
