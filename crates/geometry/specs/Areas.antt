-- Signed products of positions, the triangle between three of them, and the area of a ring.
use Rattle.std.specs.Prelude.{ℕ, ◌*◌, ◌^◌, ℤ, pos, ◌+ℤ◌, ◌-ℤ◌, ◌*ℤ◌, unsigned_abs, Bool, List, [], ◌∷◌, Option, None, Some, if◌then◌else◌}
use Rattle.geometry.specs.Points.{Point}
use Rattle.geometry.specs.Units.{position_limit}

-- the cross product of the ways from the first position to the others: over zero where they turn left, and under it where
-- they turn right
unfoldable pub cross : Point → Point → Point → ℤ
cross a b c = (b.x -ℤ a.x) *ℤ (c.y -ℤ a.y) -ℤ (c.x -ℤ a.x) *ℤ (b.y -ℤ a.y)

-- twice the area of the triangle between three positions
unfoldable pub twice_area : Point → Point → Point → ℕ
twice_area a b c = unsigned_abs (cross a b c)

-- ---- rings

-- the product of a position and the next, which turns over where they change places
abbrev pub turn : Point → Point → ℤ
turn p q = p.x *ℤ q.y -ℤ q.x *ℤ p.y

-- the sum of these over a list: of a closed one twice its signed area
unfoldable pub shoelace : List Point → ℤ
shoelace [] = pos 0
shoelace (p ∷ []) = pos 0
shoelace (p ∷ (q ∷ ps)) = turn p q +ℤ shoelace (q ∷ ps)

-- twice the area of a ring
abbrev pub twice_ring_area : List Point → ℕ
twice_ring_area ps = unsigned_abs (shoelace ps)

-- ---- a ring whose positions are passed one after the other

-- the last that was passed, and the sum so far
pub record Passed : Type 0 where
  pub last : Option Point
  pub sum : ℤ

-- what a position adds after the last one
abbrev pub turn_after : Option Point → Point → ℤ
turn_after None p = pos 0
turn_after (Some q) p = turn q p

-- one more is passed
abbrev pub passed : Passed → Point → Passed
passed s p = record { last = Some p; sum = s.sum +ℤ turn_after s.last p }

-- what these positions add after the last one
abbrev pub sum_after : Option Point → List Point → ℤ
sum_after None ps = shoelace ps
sum_after (Some q) ps = shoelace (q ∷ ps)

-- what a line adds, in one direction or the other
abbrev pub sum_along : Bool → ℤ → ℤ
sum_along reversed n = if reversed then pos 0 -ℤ n else n

-- a line is passed that adds so much, and ends there
abbrev pub passed_along : Bool → Passed → ℤ → Point → Passed
passed_along reversed s n end = record { last = Some end; sum = s.sum +ℤ sum_along reversed n }

-- the most that one of them adds
abbrev pub most_turned : ℕ
most_turned = 2 * position_limit * position_limit

-- so far from zero is no sum over fewer than 2^128 positions
abbrev pub sum_limit : ℕ
sum_limit = 2 ^ 128 * most_turned
