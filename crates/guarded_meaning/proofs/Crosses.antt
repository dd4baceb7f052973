-- Equations between cross products.
use Rattle.std.proofs.Common.{◌≡◌, ℕ, ℤ, pos, ◌-ℤ◌, ◌*ℤ◌, ◌+ℤ◌, ◌+◌, ◌*◌, ap, sym, ◌∙◌, arith}
use Rattle.guarded_meaning.proofs.Names.{ints, *ℤ_comm, *ℤ-zero, sub_times, times_sub, sub_times_sub, cross, Point}
use borrow.Author.Differences.{up, down, product_is, sum_is_lem}

-- a cross product multiplied out
pub cross_is : (a b c : Point) → cross a b c ≡ ((b.x *ℤ c.y -ℤ b.x *ℤ a.y) -ℤ (a.x *ℤ c.y -ℤ a.x *ℤ a.y)) -ℤ ((c.x *ℤ b.y -ℤ c.x *ℤ a.y) -ℤ (a.x *ℤ b.y -ℤ a.x *ℤ a.y))
unfolding cross
cross_is a b c = ap (λ z. z -ℤ (c.x -ℤ a.x) *ℤ (b.y -ℤ a.y)) (sub_times_sub b.x a.x c.y a.y) ∙ ap (λ z. ((b.x *ℤ c.y -ℤ b.x *ℤ a.y) -ℤ (a.x *ℤ c.y -ℤ a.x *ℤ a.y)) -ℤ z) (sub_times_sub c.x a.x b.y a.y)

-- the same from each of the three
pub cross_round : (a b c : Point) → cross a b c ≡ cross b c a
cross_round a b c = omega (arith, ints, cross_is a b c, cross_is b c a)

-- the separates of a triangle that a fourth position makes
pub cross_parts : (a p c q : Point) → cross a p q +ℤ (cross p c q +ℤ cross c a q) ≡ cross a p c
cross_parts a p c q = omega (arith, ints, cross_is a p q, cross_is p c q, cross_is c a q, cross_is a p c)

-- ---- products of three

-- the two separates of a product, times a number
left_up : (x y : ℤ) (n : ℕ) → up (x *ℤ y) * n ≡ (up x * up y + down x * down y) * n
left_up x y n = ap (λ m. m * n) (product_is x y).0

left_down : (x y : ℤ) (n : ℕ) → down (x *ℤ y) * n ≡ (up x * down y + down x * up y) * n
left_down x y n = ap (λ m. m * n) (product_is x y).1

pub times_assoc : (x y z : ℤ) → (x *ℤ y) *ℤ z ≡ x *ℤ (y *ℤ z)
times_assoc x y z = omega (
  arith,
  ints,
  left_up x y (up z),
  left_up x y (down z),
  left_down x y (up z),
  left_down x y (down z),
  left_up y z (up x),
  left_up y z (down x),
  left_down y z (up x),
  left_down y z (down x),
)

-- the first and the last exchanged
pub times_turned : (x y z : ℤ) → (x *ℤ y) *ℤ z ≡ (z *ℤ y) *ℤ x
times_turned x y z = *ℤ_comm (x *ℤ y) z ∙ sym (times_assoc z x y) ∙ ap (λ m. m *ℤ y) (*ℤ_comm z x) ∙ times_assoc x z y ∙ *ℤ_comm x (z *ℤ y)

-- ---- four positions, seen from one of them: three ways and a fourth

abbrev pub turned : ℤ → ℤ → ℤ → ℤ → ℤ
turned ax ay bx by = ax *ℤ by -ℤ bx *ℤ ay

-- each way times the turn of the others
pub three_ways : (ax ay bx by cx cy : ℤ) → turned bx by cx cy *ℤ ax +ℤ (turned cx cy ax ay *ℤ bx +ℤ turned ax ay bx by *ℤ cx) ≡ pos 0
three_ways ax ay bx by cx cy = omega (
  arith,
  ints,
  sub_times (bx *ℤ cy) (cx *ℤ by) ax,
  sub_times (cx *ℤ ay) (ax *ℤ cy) bx,
  sub_times (ax *ℤ by) (bx *ℤ ay) cx,
  times_turned bx cy ax,
  times_turned cx by ax,
  times_turned cx ay bx,
)

pub three_ways_up : (ax ay bx by cx cy : ℤ) → turned bx by cx cy *ℤ ay +ℤ (turned cx cy ax ay *ℤ by +ℤ turned ax ay bx by *ℤ cy) ≡ pos 0
three_ways_up ax ay bx by cx cy = omega (
  arith,
  ints,
  sub_times (bx *ℤ cy) (cx *ℤ by) ay,
  sub_times (cx *ℤ ay) (ax *ℤ cy) by,
  sub_times (ax *ℤ by) (bx *ℤ ay) cy,
  times_turned bx cy ay,
  *ℤ_comm (cx *ℤ by) ay,
  *ℤ_comm (cx *ℤ ay) by,
  times_assoc bx cy ay,
  times_assoc bx ay cy,
  times_assoc cx ay by,
  times_assoc cx by ay,
  times_assoc ax by cy,
  times_assoc ax cy by,
  ap (λ n. bx *ℤ n) (*ℤ_comm ay cy),
  ap (λ n. cx *ℤ n) (*ℤ_comm ay by),
  ap (λ n. ax *ℤ n) (*ℤ_comm by cy),
)

-- the weights of a triangle's corners at a position, by how far it is from them across and up
weights_from : (q a p c : Point) → (cross q p c *ℤ (a.x -ℤ q.x) +ℤ (cross q c a *ℤ (p.x -ℤ q.x) +ℤ cross q a p *ℤ (c.x -ℤ q.x)) ≡ pos 0)
    × (cross q p c *ℤ (a.y -ℤ q.y) +ℤ (cross q c a *ℤ (p.y -ℤ q.y) +ℤ cross q a p *ℤ (c.y -ℤ q.y)) ≡ pos 0)
unfolding cross
weights_from q a p c = (
  three_ways (a.x -ℤ q.x) (a.y -ℤ q.y) (p.x -ℤ q.x) (p.y -ℤ q.y) (c.x -ℤ q.x) (c.y -ℤ q.y),
  three_ways_up (a.x -ℤ q.x) (a.y -ℤ q.y) (p.x -ℤ q.x) (p.y -ℤ q.y) (c.x -ℤ q.x) (c.y -ℤ q.y),
)

pub weights : (a p c q : Point) → (cross p c q *ℤ (a.x -ℤ q.x) +ℤ (cross c a q *ℤ (p.x -ℤ q.x) +ℤ cross a p q *ℤ (c.x -ℤ q.x)) ≡ pos 0)
    × (cross p c q *ℤ (a.y -ℤ q.y) +ℤ (cross c a q *ℤ (p.y -ℤ q.y) +ℤ cross a p q *ℤ (c.y -ℤ q.y)) ≡ pos 0)
weights a p c q = rw (cross_round q p c, cross_round q c a, cross_round q a p) at (weights_from q a p c)

add_times : (a b c : ℤ) → (a +ℤ b) *ℤ c ≡ a *ℤ c +ℤ b *ℤ c
add_times a b c = omega (
  arith,
  ints,
  product_is (a +ℤ b) c,
  product_is a c,
  product_is b c,
  ap (λ n. n * up c) (sum_is_lem a b),
  ap (λ n. n * down c) (sum_is_lem a b),
)

times_add : (a b c : ℤ) → c *ℤ (a +ℤ b) ≡ c *ℤ a +ℤ c *ℤ b
times_add a b c = *ℤ_comm c (a +ℤ b) ∙ add_times a b c ∙ ap (λ z. z +ℤ b *ℤ c) (*ℤ_comm a c) ∙ ap (λ z. c *ℤ a +ℤ z) (*ℤ_comm b c)

times_past : (k x y : ℤ) → k *ℤ (x *ℤ y) ≡ x *ℤ (k *ℤ y)
times_past k x y = sym (times_assoc k x y) ∙ ap (λ z. z *ℤ y) (*ℤ_comm k x) ∙ times_assoc x k y

times_turn : (k vx vy ax ay : ℤ) → k *ℤ turned vx vy ax ay ≡ vx *ℤ (k *ℤ ay) -ℤ vy *ℤ (k *ℤ ax)
times_turn k vx vy ax ay = times_sub (vx *ℤ ay) (ax *ℤ vy) k ∙ ap (λ z. z -ℤ k *ℤ (ax *ℤ vy)) (times_past k vx ay)
    ∙ ap (λ z. vx *ℤ (k *ℤ ay) -ℤ z) (ap (λ z. k *ℤ z) (*ℤ_comm ax vy) ∙ times_past k vy ax)

-- a number times a sum of three
times_three : (k x y z : ℤ) → k *ℤ (x +ℤ (y +ℤ z)) ≡ k *ℤ x +ℤ (k *ℤ y +ℤ k *ℤ z)
times_three k x y z = times_add x (y +ℤ z) k ∙ ap (λ w. k *ℤ x +ℤ w) (times_add y z k)

-- the turn of two ways times that from a fourth to the third, summed, is nothing
four_ways : (vx vy ax ay bx by cx cy : ℤ) →
    turned bx by cx cy *ℤ turned vx vy ax ay +ℤ (turned cx cy ax ay *ℤ turned vx vy bx by +ℤ turned ax ay bx by *ℤ turned vx vy cx cy) ≡ pos 0
four_ways vx vy ax ay bx by cx cy = omega (
  arith,
  ints,
  times_turn (turned bx by cx cy) vx vy ax ay,
  times_turn (turned cx cy ax ay) vx vy bx by,
  times_turn (turned ax ay bx by) vx vy cx cy,
  times_three vx (turned bx by cx cy *ℤ ay) (turned cx cy ax ay *ℤ by) (turned ax ay bx by *ℤ cy),
  times_three vy (turned bx by cx cy *ℤ ax) (turned cx cy ax ay *ℤ bx) (turned ax ay bx by *ℤ cx),
  ap (λ z. vx *ℤ z) (three_ways_up ax ay bx by cx cy) ∙ *ℤ-zero vx,
  ap (λ z. vy *ℤ z) (three_ways ax ay bx by cx cy) ∙ *ℤ-zero vy,
)

pub four_turns : (u v a b c : Point) → cross u b c *ℤ cross u v a +ℤ (cross u c a *ℤ cross u v b +ℤ cross u a b *ℤ cross u v c) ≡ pos 0
unfolding cross
four_turns u v a b c = four_ways (v.x -ℤ u.x) (v.y -ℤ u.y) (a.x -ℤ u.x) (a.y -ℤ u.y) (b.x -ℤ u.x) (b.y -ℤ u.y) (c.x -ℤ u.x) (c.y -ℤ u.y)
