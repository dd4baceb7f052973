-- Equally spaced coordinates in each direction, and the nearest of them to a position.
use Rattle.std.specs.Prelude.{ℕ, ◌+◌, ◌-◌, ◌*◌, ◌/◌, ◌^◌, ◌≤◌, max, nat_le, ℤ, pos, ◌+ℤ◌, ◌-ℤ◌, ◌*ℤ◌, ◌≤ℤ◌, unsigned_abs, int_le, Bool, ◌&&◌, List, [], ◌∷◌, map, Option, None, Some}
use Rattle.std.specs.List.{fold}
use Rattle.std.specs.Int.{int_min, int_max}
use Rattle.decimal_text.specs.Rounding.{nearest}
use Rattle.geometry.specs.Points.{Point}
use Rattle.geometry.specs.Units.{input_limit}
use Rattle.grid_snap.specs.declared.axis.Axis.{Axis}

-- ---- one direction

-- how far a coordinate is from the first one, in units
abbrev pub offset : Axis → ℤ → ℕ
offset a x = unsigned_abs (x -ℤ a.first)

-- it is neither before the first coordinate of the axis nor past the last
unfoldable pub is_on : Axis → ℤ → Bool
is_on a x = int_le a.first x && nat_le (offset a x) (a.last * a.step)

-- the number of the nearest coordinate of the axis, from zero, the higher one of two: floor((x - first) / step + 1/2)
unfoldable pub number : Axis → ℤ → ℕ
number a x = nearest (offset a x) a.step

-- the coordinate of a number
abbrev pub coordinate : Axis → ℤ → ℤ
coordinate a k = a.first +ℤ (k *ℤ pos a.step)

-- a fraction rounded up to a whole number
abbrev pub rounded_up : ℕ → ℕ → ℕ
rounded_up a b = (a + (b - 1)) / b

-- so many coordinates from the least to the greatest or farther, a whole number of units apart
abbrev pub axis_over : ℕ → ℤ → ℤ → Axis
axis_over count least greatest =
    record { first = least; step = max (rounded_up (unsigned_abs (greatest -ℤ least)) (count - 1)) 1; last = count - 1 }

-- ---- both directions

pub record Axes : Type 0 where
  pub x : Axis
  pub y : Axis

-- it lies between the first and the last coordinates
abbrev pub covers : Axes → Point → Bool
covers g p = is_on g.x p.x && is_on g.y p.y

-- the numbers of the nearest coordinates
abbrev pub cell : Axes → Point → Point
cell g p = record { x = pos (number g.x p.x); y = pos (number g.y p.y) }

-- where a cell lies
abbrev pub back : Axes → Point → Point
back g c = record { x = coordinate g.x c.x; y = coordinate g.y c.y }

-- the position of the nearest coordinates
abbrev pub snapped : Axes → Point → Point
snapped g p = back g (cell g p)

-- the grid of so many coordinates in each direction over positions, from the least of theirs on; there is none without a position
abbrev pub grid_over : ℕ → List Point → Option Axes
grid_over count [] = None
grid_over count (p ∷ ps) =
    let xs = map (λ q. q.x) ps in
    let ys = map (λ q. q.y) ps in
    Some (record {
      x = axis_over count (fold int_min p.x xs) (fold int_max p.x xs);
      y = axis_over count (fold int_min p.y ys) (fold int_max p.y ys);
    })

-- ---- which axes and cells there are

-- the greatest number of coordinates in a direction
abbrev pub count_limit : ℕ
count_limit = 10 ^ 9

-- how far from zero a coordinate of a grid may be: the last one is less than a step past the positions
abbrev pub reach : ℕ
reach = input_limit + count_limit

-- what holds of the axes over positions of layers
pub record IsAxis (a : Axis) : Type 0 where
  pub apart : 1 ≤ a.step
  pub some : 1 ≤ a.last
  pub few : a.last ≤ count_limit
  pub first : unsigned_abs a.first ≤ input_limit
  pub length : a.last * a.step ≤ 2 * input_limit + count_limit
  pub end : unsigned_abs (a.first +ℤ pos (a.last * a.step)) ≤ reach

pub record IsGrid (g : Axes) : Type 0 where
  pub x : IsAxis g.x
  pub y : IsAxis g.y

-- a number of a coordinate
abbrev pub IsNumbered : Axis → ℤ → Type 0
IsNumbered a k = (pos 0 ≤ℤ k) × (k ≤ℤ pos a.last)

abbrev pub IsCell : Axes → Point → Type 0
IsCell g c = IsNumbered g.x c.x × IsNumbered g.y c.y
