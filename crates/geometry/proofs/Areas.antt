-- A triangle's area is the same from its other end, and worked triangles.
use Rattle.std.proofs.Common.{◌≡◌, ℤ, pos, ◌-ℤ◌, ◌*ℤ◌, ◌+ℤ◌, ◌+◌, ◌*◌, refl, ap, ◌∙◌, arith}
use Rattle.std.proofs.lemmas.Int.{ints}
use borrow.Author.Differences.{up, down}
use lib.IntN.{*ℤ_comm}
use Rattle.std.specs.Int.RustNames.{unsigned_abs}
use Rattle.geometry.specs.Areas.{cross, twice_area}
use Rattle.geometry.specs.Points.{Point}

-- an integer is a difference of two numbers, and a product of integers that of their products
product_is : (a b : ℤ) → up (a *ℤ b) + (down a * up b + up a * down b) ≡ down (a *ℤ b) + (up a * up b + down a * down b)
product_is a b = grind arith

difference_is : (a b : ℤ) → up (a -ℤ b) + (down a + up b) ≡ down (a -ℤ b) + (up a + down b)
difference_is a b = omega (arith, ints)

-- a difference times an integer, and an integer times a difference
pub sub_times : (a b c : ℤ) → (a -ℤ b) *ℤ c ≡ a *ℤ c -ℤ b *ℤ c
sub_times a b c = omega (
  arith,
  ints,
  product_is (a -ℤ b) c,
  product_is a c,
  product_is b c,
  ap (λ n. n * up c) (difference_is a b),
  ap (λ n. n * down c) (difference_is a b),
)

pub times_sub : (a b c : ℤ) → c *ℤ (a -ℤ b) ≡ c *ℤ a -ℤ c *ℤ b
times_sub a b c = *ℤ_comm c (a -ℤ b) ∙ sub_times a b c ∙ ap (λ z. z -ℤ b *ℤ c) (*ℤ_comm a c) ∙ ap (λ z. c *ℤ a -ℤ z) (*ℤ_comm b c)

-- two differences multiplied out
pub sub_times_sub : (a b c d : ℤ) → (a -ℤ b) *ℤ (c -ℤ d) ≡ (a *ℤ c -ℤ a *ℤ d) -ℤ (b *ℤ c -ℤ b *ℤ d)
sub_times_sub a b c d = grind (arith, sub_times, times_sub)

-- the cross product from the other end is the same under the other sign
pub cross_turned : (a b c : Point) → cross a b c +ℤ cross c b a ≡ pos 0
cross_turned a b c = unfold cross in omega (
  arith,
  ints,
  sub_times_sub b.x a.x c.y a.y,
  sub_times_sub c.x a.x b.y a.y,
  sub_times_sub b.x c.x a.y c.y,
  sub_times_sub a.x c.x b.y c.y,
)

apart_abs : (y z : ℤ) → y +ℤ z ≡ pos 0 → unsigned_abs y ≡ unsigned_abs z
apart_abs y z sum = omega (arith, ints)

-- the area is the same from the other end
pub area_turned : (a b c : Point) → twice_area a b c ≡ twice_area c b a
area_turned a b c = unfold twice_area in apart_abs (cross a b c) (cross c b a) (cross_turned a b c)

-- the triangle of (0, 0), (10, 0) and (10, 5), half of a rectangle, and the same with its corners the other way around
abbrev place : ℤ → ℤ → Point
place x y = record { x = x; y = y }

left_turn : cross (place (pos 0) (pos 0)) (place (pos 10) (pos 0)) (place (pos 10) (pos 5)) ≡ pos 50
left_turn = unfold cross in refl

half_a_rectangle : twice_area (place (pos 10) (pos 5)) (place (pos 10) (pos 0)) (place (pos 0) (pos 0)) ≡ 50
half_a_rectangle = unfold twice_area cross in refl

on_a_line : twice_area (place (pos 0) (pos 0)) (place (pos 3) (pos 3)) (place (pos 8) (pos 8)) ≡ 0
on_a_line = unfold twice_area cross in refl
