-- Starts and pieces of small linework, computed from the definitions.
use Rattle.std.specs.Prelude.{◌≡◌, ℕ, Bool, true, false, List, [], ◌∷◌, map, pos, refl}
use Rattle.cutter.proofs.Names.{Point, same, is_cut, is_junction, Stroke, start_in, pieces_of, pieces, is_segment, line_segments, piece_segments, times}

abbrev p : ℕ → ℕ → Point
p x y = record { x = pos x; y = pos y }

abbrev stroke : Bool → List Point → Stroke
stroke closed ps = record { closed = closed; positions = ps }

abbrev ring : List Point → Stroke
ring ps = stroke true ps

abbrev line : List Point → Stroke
line ps = stroke false ps

-- two unit squares that share a side
abbrev left_square : List Point
left_square = p 0 0 ∷ (p 1 0 ∷ (p 1 1 ∷ (p 0 1 ∷ (p 0 0 ∷ []))))

abbrev right_square : List Point
right_square = p 1 0 ∷ (p 2 0 ∷ (p 2 1 ∷ (p 1 1 ∷ (p 1 0 ∷ []))))

abbrev squares : List Stroke
squares = ring left_square ∷ (ring right_square ∷ [])

left_starts_at_one : start_in (is_cut squares) left_square ≡ 1
left_starts_at_one = unfold same in refl

right_starts_at_zero : start_in (is_cut squares) right_square ≡ 0
right_starts_at_zero = unfold same in refl

pieces_of_squares : map (pieces_of squares) squares ≡ ((p 1 0 ∷ (p 1 1 ∷ [])) ∷ ((p 1 1 ∷ (p 0 1 ∷ (p 0 0 ∷ (p 1 0 ∷ [])))) ∷ []))
    ∷ (((p 1 0 ∷ (p 2 0 ∷ (p 2 1 ∷ (p 1 1 ∷ [])))) ∷ ((p 1 1 ∷ (p 1 0 ∷ [])) ∷ [])) ∷ [])
pieces_of_squares = unfold same in refl

-- the shared side occurs twice, in the lines and in the pieces
side_of_squares : times (p 1 0) (p 1 1) (line_segments squares) ≡ 2
side_of_squares = unfold same is_segment in refl

side_of_pieces : times (p 1 0) (p 1 1) (piece_segments (pieces squares)) ≡ 2
side_of_pieces = unfold same is_segment in refl

-- a line, and one that turns back on it
abbrev turning : List Stroke
turning = line (p 0 0 ∷ (p 1 0 ∷ (p 2 0 ∷ []))) ∷ (line (p 0 0 ∷ (p 1 0 ∷ (p 0 0 ∷ []))) ∷ [])

turn_is_junction : is_junction turning (p 1 0) ≡ true
turn_is_junction = unfold same in refl

pieces_of_turning : map (pieces_of turning) turning ≡ ((p 0 0 ∷ (p 1 0 ∷ [])) ∷ ((p 1 0 ∷ (p 2 0 ∷ [])) ∷ []))
    ∷ (((p 0 0 ∷ (p 1 0 ∷ [])) ∷ ((p 1 0 ∷ (p 0 0 ∷ [])) ∷ [])) ∷ [])
pieces_of_turning = unfold same in refl

-- a ring that winds twice
abbrev winding : List Stroke
winding = ring (p 0 0 ∷ (p 1 0 ∷ (p 0 1 ∷ (p 0 0 ∷ (p 1 0 ∷ (p 0 1 ∷ (p 0 0 ∷ []))))))) ∷ []

pieces_of_winding : pieces winding ≡ (p 0 0 ∷ (p 1 0 ∷ (p 0 1 ∷ (p 0 0 ∷ [])))) ∷ ((p 0 0 ∷ (p 1 0 ∷ (p 0 1 ∷ (p 0 0 ∷ [])))) ∷ [])
pieces_of_winding = unfold same in refl

-- a ring that crosses itself, as a figure eight
abbrev eight : List Stroke
eight = ring (p 0 0 ∷ (p 1 1 ∷ (p 2 0 ∷ (p 2 2 ∷ (p 1 1 ∷ (p 0 2 ∷ (p 0 0 ∷ []))))))) ∷ []

pieces_of_eight : pieces eight ≡ (p 1 1 ∷ (p 2 0 ∷ (p 2 2 ∷ (p 1 1 ∷ [])))) ∷ ((p 1 1 ∷ (p 0 2 ∷ (p 0 0 ∷ (p 1 1 ∷ [])))) ∷ [])
pieces_of_eight = unfold same in refl

-- two rings that touch in one position
abbrev touching : List Stroke
touching = ring (p 0 0 ∷ (p 1 0 ∷ (p 1 1 ∷ (p 0 0 ∷ [])))) ∷ (ring (p 1 1 ∷ (p 2 1 ∷ (p 2 2 ∷ (p 1 1 ∷ [])))) ∷ [])

pieces_of_touching : map (pieces_of touching) touching ≡
    ((p 1 1 ∷ (p 0 0 ∷ (p 1 0 ∷ (p 1 1 ∷ [])))) ∷ []) ∷ (((p 1 1 ∷ (p 2 1 ∷ (p 2 2 ∷ (p 1 1 ∷ [])))) ∷ []) ∷ [])
pieces_of_touching = unfold same in refl

-- two rings that share two separate borders
abbrev bordering : List Stroke
bordering =
    ring (p 0 0 ∷ (p 3 0 ∷ (p 2 1 ∷ (p 1 1 ∷ (p 0 0 ∷ [])))))
    ∷ (ring (p 0 0 ∷ (p 1 1 ∷ (p 1 2 ∷ (p 2 2 ∷ (p 2 1 ∷ (p 3 0 ∷ (p 3 3 ∷ (p 0 3 ∷ (p 0 0 ∷ []))))))))) ∷ [])

pieces_of_bordering : map (pieces_of bordering) bordering ≡
    ((p 0 0 ∷ (p 3 0 ∷ [])) ∷ ((p 3 0 ∷ (p 2 1 ∷ [])) ∷ ((p 2 1 ∷ (p 1 1 ∷ [])) ∷ ((p 1 1 ∷ (p 0 0 ∷ [])) ∷ []))))
    ∷ (((p 0 0 ∷ (p 1 1 ∷ [])) ∷ ((p 1 1 ∷ (p 1 2 ∷ (p 2 2 ∷ (p 2 1 ∷ [])))) ∷ ((p 2 1 ∷ (p 3 0 ∷ [])) ∷ ((p 3 0 ∷ (p 3 3 ∷ (p 0 3 ∷ (p 0 0 ∷ [])))) ∷ [])))) ∷ [])
pieces_of_bordering = unfold same in refl

-- an open line whose ends are equal keeps its first position, though another is less
abbrev closing : List Stroke
closing = line (p 1 0 ∷ (p 1 1 ∷ (p 0 0 ∷ (p 1 0 ∷ [])))) ∷ []

pieces_of_closing : pieces closing ≡ (p 1 0 ∷ (p 1 1 ∷ (p 0 0 ∷ (p 1 0 ∷ [])))) ∷ []
pieces_of_closing = unfold same in refl

-- a ring, and a line that ends on it
abbrev ending : List Stroke
ending = ring (p 0 0 ∷ (p 2 0 ∷ (p 2 2 ∷ (p 0 0 ∷ [])))) ∷ (line (p 5 5 ∷ (p 2 2 ∷ [])) ∷ [])

pieces_of_ending : map (pieces_of ending) ending ≡ ((p 2 2 ∷ (p 0 0 ∷ (p 2 0 ∷ (p 2 2 ∷ [])))) ∷ []) ∷ (((p 5 5 ∷ (p 2 2 ∷ [])) ∷ []) ∷ [])
pieces_of_ending = unfold same in refl
