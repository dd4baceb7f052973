-- The positions of places, of which some are left.
use Rattle.std.specs.Prelude.{ℕ, Bool, true, false, List, length, replicate, slice_set}
use Rattle.geometry.specs.Points.{Point}

-- the positions of all places, by their numbers, which of them are left, and whether there is an index over these
pub record Placed : Type 0 where
  pub positions : List Point
  pub left : List Bool
  pub indexed : Bool

-- these positions, which are all left
abbrev pub all_placed : Bool → List Point → Placed
all_placed indexed ps = record { positions = ps; left = replicate (length ps) true; indexed = indexed }

-- without this place
abbrev pub without_placed : ℕ → Placed → Placed
without_placed z x = record { positions = x.positions; left = slice_set x.left z false; indexed = x.indexed }
