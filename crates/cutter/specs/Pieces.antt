-- Starts of rings, and the pieces into which lines are split.
use Rattle.std.specs.Prelude.{ℕ, suc, ◌+◌, Bool, true, false, List, [], ◌∷◌, ◌++◌, take, drop, if◌then◌else◌}
use Rattle.std.specs.List.{filter, flat_map}
use Rattle.geometry.specs.Order.{is_least}
use Rattle.geometry.specs.Points.{Point}
use Rattle.junctions.specs.Cuts.{is_cut}
use Rattle.junctions.specs.declared.stroke.Stroke.{Stroke}

-- the index of the first position that passes the test, or the length
abbrev pub first_at : (Point → Bool) → List Point → ℕ
first_at test [] = 0
first_at test (p ∷ ps) = if test p then 0 else suc (first_at test ps)

-- the index of the first visit of the least cut position
abbrev pub start_in : (Point → Bool) → List Point → ℕ
start_in cut ps = first_at (λ p. is_least p (filter cut ps)) ps

-- a ring from its position at the index on, round to that position
abbrev pub turned : ℕ → List Point → List Point
turned k ps = drop k ps ++ drop 1 (take (k + 1) ps)

-- the positions of a line, those of a ring from its start on
abbrev pub from_start : (Point → Bool) → Stroke → List Point
from_start cut s = if s.closed then turned (start_in cut s.positions) s.positions else s.positions

-- the pieces after the segment from p to q, and that segment: a piece of its own where q is a cut position, else the
-- beginning of the first of them
abbrev pub joined : Bool → Point → Point → List (List Point) → List (List Point)
joined true p q pieces = (p ∷ (q ∷ [])) ∷ pieces
joined false p q [] = (p ∷ (q ∷ [])) ∷ []
joined false p q (piece ∷ pieces) = (p ∷ piece) ∷ pieces

-- the pieces of a position and more of them
abbrev pub pieces_from : (Point → Bool) → Point → List Point → List (List Point)
pieces_from cut p [] = []
pieces_from cut p (q ∷ ps) = joined (cut q) p q (pieces_from cut q ps)

-- the list, split at each cut position between its ends, which both pieces keep
abbrev pub split_at : (Point → Bool) → List Point → List (List Point)
split_at cut [] = []
split_at cut (p ∷ ps) = pieces_from cut p ps

-- the pieces of one of the lines
abbrev pub pieces_of : List Stroke → Stroke → List (List Point)
pieces_of ls s = split_at (is_cut ls) (from_start (is_cut ls) s)

-- the pieces of all lines
abbrev pub pieces : List Stroke → List (List Point)
pieces ls = flat_map (pieces_of ls) ls

-- the list without its first position
abbrev pub but_first : List Point → List Point
but_first [] = []
but_first (p ∷ ps) = ps

-- the first piece, then each later one without its first position
abbrev pub stitched : List (List Point) → List Point
stitched [] = []
stitched (piece ∷ pieces) = piece ++ flat_map but_first pieces
