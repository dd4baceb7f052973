-- What the pieces of lines have in common, in words of segments.
use Rattle.std.specs.Prelude.{◌≡◌, ◌⊎◌, ◌<◌, ◌≤◌, List, length, reverse}
use Rattle.geometry.specs.Points.{Point}
use Rattle.cutter.specs.Places.{In, Apart, interior}
use Rattle.cutter.specs.Segments.{segments, times}

-- two pieces that share a segment, in whichever direction, are equal or each other's reverse
abbrev pub SharersAreAlike : List (List Point) → Type 0
SharersAreAlike xs = (x y : List Point) → In x xs → In y xs → (a b : Point) → 0 < times a b (segments x) → 0 < times a b (segments y) → (x ≡ y) ⊎ (x ≡ reverse y)

-- no segment stands twice in a piece, in whichever direction
abbrev pub SegmentsAreOnce : List (List Point) → Type 0
SegmentsAreOnce xs = (x : List Point) → In x xs → (a b : Point) → times a b (segments x) ≤ 1

-- the positions of a piece between its ends are distinct
abbrev pub InteriorsAreDistinct : List (List Point) → Type 0
InteriorsAreDistinct xs = (x : List Point) → In x xs → Apart (interior x)

-- a piece has two positions or more
abbrev pub PiecesAreLong : List (List Point) → Type 0
PiecesAreLong xs = (x : List Point) → In x xs → 2 ≤ length x
