-- Arcs of which some are looked up.
use Rattle.std.specs.Prelude.{◌≡◌, ℕ, ◌+◌, ◌==◌, Bool, false, List, [], ◌∷◌, length, if◌then◌else◌}
use Rattle.geometry.specs.Lists.{tail, In}
use Rattle.geometry.specs.Points.{Point}
use Rattle.arc_table.specs.Ends.{EndsAndWays, AreEnds}
use Rattle.arc_table.specs.Growth.{has_alike}

-- the first of the numbers is i
abbrev pub is_first : ℕ → List ℕ → Bool
is_first i [] = false
is_first i (n ∷ numbers) = n == i

-- the arcs of these numbers, which rise, where the first arc has the number i
abbrev pub listed : ℕ → List ℕ → List (List Point) → List (List Point)
listed i numbers [] = []
listed i numbers (arc ∷ arcs) = if is_first i numbers then arc ∷ listed (i + 1) (tail numbers) arcs else listed (i + 1) numbers arcs

-- the other arcs
abbrev pub unlisted : ℕ → List ℕ → List (List Point) → List (List Point)
unlisted i numbers [] = []
unlisted i numbers (arc ∷ arcs) = if is_first i numbers then unlisted (i + 1) (tail numbers) arcs else arc ∷ unlisted (i + 1) numbers arcs

-- each of the numbers is that of an arc, which has the end at the same place
abbrev pub AreListed : List (List Point) → List ℕ → EndsAndWays → Type 0
AreListed arcs numbers ends = (length (listed 0 numbers arcs) ≡ length numbers) × AreEnds (listed 0 numbers arcs) ends

-- none of the pieces is alike one of the arcs
abbrev pub AreApart : List (List Point) → List (List Point) → Type 0
AreApart arcs pieces = (x : List Point) → In x pieces → has_alike arcs x ≡ false
