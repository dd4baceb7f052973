-- What an algorithm can use that looks for the corner that goes next.
use Rattle.std.specs.Prelude.{◌≡◌, ℕ, ℤ, true, false, List, None, Some}
use Rattle.std.specs.List.{AllByRecursion}
use Rattle.geometry.specs.Lists.{In}
use Rattle.elimination_meaning.specs.Elimination.{Vertex}
use Rattle.guarded_meaning.specs.Holders.{Holder, IsLeft, goes_with, Holds}
use Rattle.guarded_meaning.specs.Arcs.{ArcCorner, all_corners, left_by, HasOwnIndexes}
use Rattle.guarded_meaning.specs.Elimination.{Guard, goes_before, goes, next_arcs}
use Rattle.guarded_meaning.specs.Guards.{is_free, keeps_rings}

-- a corner that goes, and that no other that goes is before, is the next to go
abbrev pub NextLaw : Type 0
NextLaw = (guard : Guard) (t : ℕ) (arcs : List (List Vertex)) (c : ArcCorner) → In c (all_corners 0 arcs) → goes guard t arcs c ≡ true →
    ((d : ArcCorner) → In d (all_corners 0 arcs) → goes guard t arcs d ≡ true → goes_before d c ≡ false) → next_arcs guard t arcs ≡ Some (left_by arcs c)

-- where no corner goes, there is no next
abbrev pub NoNextLaw : Type 0
NoNextLaw = (guard : Guard) (t : ℕ) (arcs : List (List Vertex)) → ((d : ArcCorner) → In d (all_corners 0 arcs) → goes guard t arcs d ≡ false) → next_arcs guard t arcs ≡ None

-- a corner that isn't free is held by something that is left, and one that is held isn't free
abbrev pub FreeOrHeld : Type 0
FreeOrHeld = (arcs : List (List Vertex)) (c : ArcCorner) → is_free arcs c ≡ false → (h : Holder) × IsLeft arcs h × Holds c h

abbrev pub HeldIsNotFree : Type 0
HeldIsNotFree = (arcs : List (List Vertex)) (c : ArcCorner) (h : Holder) → IsLeft arcs h → Holds c h → is_free arcs c ≡ false

-- what doesn't go with a corner is left by it, so what it holds is held until it goes itself
abbrev pub HolderStays : Type 0
HolderStays = (arcs : List (List Vertex)) (c : ArcCorner) (h : Holder) → AllByRecursion HasOwnIndexes arcs → In c (all_corners 0 arcs) → IsLeft arcs h → goes_with c h ≡ false → IsLeft (left_by arcs c) h

-- a corner that can't go for its rings never can
abbrev pub NeverAgain : Type 0
NeverAgain = (rings : List (List ℤ)) (arcs : List (List Vertex)) (c d : ArcCorner) → keeps_rings rings arcs d ≡ false → keeps_rings rings (left_by arcs c) d ≡ false
