-- Lines of one piece that is alike no other.
use Rattle.std.specs.Prelude.{◌≡◌, Bool, true, List, ◌∷◌, ◌++◌, length, reverse, slice_get, Some}
use Rattle.geometry.specs.Points.{Point}
use Rattle.cutter.specs.Places.{In}
use Rattle.cutter.specs.Slices.{SplitLine, all_pieces}

-- it is none of them, and the reverse of none
abbrev pub IsUnlike : List Point → List (List Point) → Type 0
IsUnlike x ys = (y : List Point) → In y ys → (x ≡ y → ⊥) × (x ≡ reverse y → ⊥)

-- each piece of a line with a set flag is unlike all pieces of the others
abbrev pub AreAlone : List Bool → List SplitLine → Type 0
AreAlone flags ss = (before after : List SplitLine) (s : SplitLine) → ss ≡ before ++ (s ∷ after) → slice_get flags (length before) ≡ Some true
    → (x : List Point) → In x s.pieces → IsUnlike x (all_pieces (before ++ after))
