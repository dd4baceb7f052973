-- Lines and rings whose positions are passed one after the other: until there are enough of them, or to sum up the area of a ring.
use Rattle.std.specs.Prelude.{◌≡◌, ℕ, ◌-◌, ◌*◌, ◌^◌, ◌≤◌, ◌==◌, ℤ, ◌+ℤ◌, min, unsigned_abs, Bool, ◌&&◌, List, [], ◌∷◌, ◌++◌, Option, None, Some, length, reverse, if◌then◌else◌}
use Rattle.geometry.specs.Areas.{Passed, shoelace, sum_after, most_turned}
use Rattle.geometry.specs.Points.{Point}
use Rattle.geometry.specs.Rings.{same}
use Rattle.junctions.specs.Cleaning.{clean, clean_from}

-- the last position that was passed, and how many are still missing
pub record Need : Type 0 where
  pub last : Option Point
  pub missing : ℕ

-- before any is passed of an open line (false) or a ring (true)
abbrev pub unpassed : Bool → Need
unpassed closed = record { last = None; missing = if closed then 4 else 2 }

-- how many positions these are more after the last one, with equal neighbours as one
abbrev pub new_after : Option Point → List Point → ℕ
new_after None ps = length (clean ps)
new_after (Some p) ps = length (clean_from p ps) - 1

-- how many positions an arc is left with, with equal neighbours as one: no more than six count
abbrev pub counted : List Point → ℕ
counted ps = min (length (clean ps)) 6

-- how many are missing when these are passed
abbrev pub missing_after : Need → List Point → ℕ
missing_after n ps = n.missing - new_after n.last ps

-- these positions are passed: with whatever comes after them the value is unchanged
abbrev pub PassesBy : {S V : Type 0} → (S → List Point → V) → List Point → S → S → Type 0
PassesBy value ps old new = (following : List Point) → value new following ≡ value old (ps ++ following)

-- these positions are passed: whatever comes after them, as many are missing
abbrev pub Passes : List Point → Need → Need → Type 0
Passes = PassesBy missing_after

-- what the sum over a ring is when these are passed
abbrev pub sum_with : Passed → List Point → ℤ
sum_with s ps = s.sum +ℤ sum_after s.last ps

-- the sum is the same
abbrev pub Sums : List Point → Passed → Passed → Type 0
Sums = PassesBy sum_with

-- the most that the positions of an arc add to the sum
abbrev pub most_of_arc : ℕ
most_of_arc = 2 ^ 64 * most_turned

-- this is what a line adds up to, and no more than an arc adds
abbrev pub is_sum : List Point → Passed → Type 0
is_sum ps s = (s.sum ≡ shoelace ps) × (unsigned_abs s.sum ≤ most_of_arc)

-- these are the sums of the first arcs
abbrev pub AreSums : List (List Point) → List Passed → Type 0
AreSums arcs [] = Unit {0}
AreSums [] (s ∷ sums) = ⊥
AreSums (arc ∷ arcs) (s ∷ sums) = is_sum arc s × AreSums arcs sums

-- a line that begins at p, or is without that where one is left out, begins a ring of which nothing was passed, or goes on at the last that was
abbrev pub goes_on : Option Point → Point → ℕ → Bool
goes_on None p from = from == 0
goes_on (Some q) p from = from == 1 && same q p

-- an arc in one direction or the other
abbrev pub directed : Bool → List Point → List Point
directed reversed arc = if reversed then reverse arc else arc
