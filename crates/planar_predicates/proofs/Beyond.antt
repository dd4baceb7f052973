-- What lies beyond a side of a triangle is not in it.
use Rattle.std.proofs.Common.{◌≡◌, ℤ, pos, ◌-ℤ◌, ◌*ℤ◌, ◌<ℤ◌, ◌≤ℤ◌, ◌⊎◌, inl, inr, true, arith}
use Rattle.std.proofs.lemmas.Int.{ints}
use Rattle.geometry.specs.Areas.{cross}
use Rattle.geometry.specs.Points.{Point, IsPosition}
use Rattle.geometry.specs.Units.{position_limit}
use Rattle.geometry.proofs.Areas.{sub_times_sub}
use Rattle.guarded_meaning.specs.Laws.{IsInBox, IsBeyondNone}
use Rattle.guarded_meaning.specs.Triangles.{in_triangle}
use Rattle.guarded_meaning.proofs.Box.{box_law}
use Rattle.guarded_meaning.proofs.Crosses.{cross_is}
use Rattle.guarded_meaning.proofs.Pasch.{swapped}
use Rattle.guarded_meaning.proofs.Signs.{below_or}

-- ---- the farthest of several

over_over_weak : (x y : ℤ) → (pos 0 ≤ℤ x) → (pos 0 ≤ℤ y) → (pos 0 ≤ℤ (x *ℤ y))
over_over_weak x y h k = grind (arith, ints)

under_under_weak : (x y : ℤ) → (x ≤ℤ pos 0) → (y ≤ℤ pos 0) → (pos 0 ≤ℤ (x *ℤ y))
under_under_weak x y h k = grind (arith, ints)

abbrev Choice : ℤ → ℤ → ℤ → ℤ → Type 0
Choice a b x y = ((a ≤ℤ b) → (x ≤ℤ y)) × ((b <ℤ a) → (y ≤ℤ x))

-- two differences of one sign
product_over : (a b x y : ℤ) → Choice a b x y → (pos 0 ≤ℤ ((b -ℤ a) *ℤ (y -ℤ x)))
product_over a b x y h = on (below_or b a)
  where
    on : ((b <ℤ a) ⊎ (a ≤ℤ b)) → (pos 0 ≤ℤ ((b -ℤ a) *ℤ (y -ℤ x)))
    on (inl k) = let m = h.1 k in under_under_weak (b -ℤ a) (y -ℤ x) (omega (arith, ints, k)) (omega (arith, ints, m))
    on (inr k) = let m = h.0 k in over_over_weak (b -ℤ a) (y -ℤ x) (omega (arith, ints, k)) (omega (arith, ints, m))

pub no_farther : (from to q r : Point) → Choice from.y to.y r.x q.x → Choice from.x to.x q.y r.y → (cross from to q ≤ℤ cross from to r)
no_farther from to q r h k =
    let m = product_over from.y to.y r.x q.x h in
    let n = product_over from.x to.x q.y r.y k in
    omega (
      arith,
      ints,
      m,
      n,
      cross_is from to q,
      cross_is from to r,
      sub_times_sub to.y from.y q.x r.x,
      sub_times_sub to.x from.x r.y q.y,
      turned_times to.y q.x,
      turned_times to.y r.x,
      turned_times from.y q.x,
      turned_times from.y r.x,
    )
  where
    turned_times : (x y : ℤ) → x *ℤ y ≡ y *ℤ x
    turned_times x y = grind (arith, ints)

-- ---- beyond a side

pub off_left : (a p c q : Point) → (pos 0 ≤ℤ cross a p c) → IsBeyondNone a p c q → (cross a p q <ℤ pos 0) ⊎ ((cross p c q <ℤ pos 0) ⊎ (cross c a q <ℤ pos 0)) → ⊥
off_left a p c q d b (inl h) = let m = b.left d in omega (arith, ints, m.0, h)
off_left a p c q d b (inr (inl h)) = let m = b.left d in omega (arith, ints, m.1, h)
off_left a p c q d b (inr (inr h)) = let m = b.left d in omega (arith, ints, m.2, h)

pub off_right : (a p c q : Point) → (cross a p c <ℤ pos 0) → IsBeyondNone a p c q → (cross c p q <ℤ pos 0) ⊎ ((cross p a q <ℤ pos 0) ⊎ (cross a c q <ℤ pos 0)) → ⊥
off_right a p c q d b (inl h) = let m = b.right (omega (arith, ints, d)) in omega (arith, ints, m.1, h, swapped p c q)
off_right a p c q d b (inr (inl h)) = let m = b.right (omega (arith, ints, d)) in omega (arith, ints, m.0, h, swapped a p q)
off_right a p c q d b (inr (inr h)) = let m = b.right (omega (arith, ints, d)) in omega (arith, ints, m.2, h, swapped c a q)

-- ---- what is in it

pub within_limit : (a p c q : Point) → IsPosition a → IsPosition p → IsPosition c → in_triangle a p c q ≡ true → IsPosition q
within_limit a p c q ha hp hc h = of_box (box_law a p c q h)
  where
    of_box : IsInBox a p c q → IsPosition q
    of_box b =
        let l = b.left (pos 0 -ℤ pos position_limit) (omega (arith, ints, ha.0)) (omega (arith, ints, hp.0)) (omega (arith, ints, hc.0)) in
        let r = b.right (pos position_limit) (omega (arith, ints, ha.0)) (omega (arith, ints, hp.0)) (omega (arith, ints, hc.0)) in
        let d = b.below (pos 0 -ℤ pos position_limit) (omega (arith, ints, ha.1)) (omega (arith, ints, hp.1)) (omega (arith, ints, hc.1)) in
        let u = b.above (pos position_limit) (omega (arith, ints, ha.1)) (omega (arith, ints, hp.1)) (omega (arith, ints, hc.1)) in
        (omega (arith, ints, l, r), omega (arith, ints, d, u))

-- the first of the three is beyond no side
pub first_beyond_none : (a p c : Point) → IsBeyondNone a p c a
first_beyond_none a p c = record {
  left = λ h. (omega (arith, ints, cross_is a p a), omega (arith, ints, h, cross_is p c a, cross_is a p c), omega (arith, ints, cross_is c a a));
  right = λ h. (omega (arith, ints, cross_is a p a), omega (arith, ints, h, cross_is p c a, cross_is a p c), omega (arith, ints, cross_is c a a));
}
