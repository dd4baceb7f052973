-- The pieces of lines, joined again, are the lines, and their segments occur as often.
use Rattle.cutter.proofs.Structured.{clean_in}
use Rattle.cutter.proofs.Names.{length-append, length-drop, length-take-le, sum_by-append, all_made, Point, AllClean, IsClean, is_cut, Stroke, joined, pieces_from, split_at, start_in, turned, from_start, pieces_of, pieces, stitched, In, Segment, segments, segments_from, is_segment, line_segments, piece_segments, times, split_of, IsSplit, AllSplit, all_pieces}
use Rattle.std.proofs.Common.{◌≡◌, ℕ, ◌+◌, ◌<◌, ◌≤◌, Bool, true, false, cond, List, [], ◌∷◌, ◌++◌, take, drop, length, map, refl, ap, sym, ◌∙◌, arith, add_comm, inl, inr}
use Rattle.cutter.proofs.SegmentLaws.{split_at_segments, segments_split, turned_segments}
use Rattle.cutter.proofs.Starts.{ring_start, line}
use Rattle.std.proofs.lemmas.Grind.{flat_map-append}

-- the first piece begins at p
abbrev BeginsAt : Point → List (List Point) → Type 0
BeginsAt p [] = ⊥
BeginsAt p ([] ∷ pieces) = ⊥
BeginsAt p ((q ∷ ps) ∷ pieces) = q ≡ p

joined_begins : (b : Bool) (p q : Point) (pieces : List (List Point)) → BeginsAt p (joined b p q pieces)
joined_begins b p q pieces = grind arith

joined_joins : (b : Bool) (p q : Point) (pieces : List (List Point)) → BeginsAt q pieces → stitched (joined b p q pieces) ≡ p ∷ stitched pieces
joined_joins b p q pieces h = grind arith

pub pieces_join : (cut : Point → Bool) (p q : Point) (ps : List Point) → stitched (pieces_from cut p (q ∷ ps)) ≡ p ∷ (q ∷ ps)
pieces_join cut p q [] = grind arith
pieces_join cut p q (r ∷ ps) = grind (arith, joined_joins, joined_begins, pieces_join cut q r ps)

pub turned_length : (k : ℕ) (ps : List Point) → k < length ps → length (turned k ps) ≡ length ps
turned_length k ps h = grind (arith, length-append, length-drop, length-take-le)

pub split_joins : (cut : Point → Bool) (ps : List Point) → 2 ≤ length ps → stitched (split_at cut ps) ≡ ps
split_joins cut [] h = refl
split_joins cut (p ∷ []) h = absurd (omega arith)
split_joins cut (p ∷ (q ∷ ps)) h = pieces_join cut p q ps

-- a line from its start is as long as the line
pub start_length : (ls : List Stroke) (c : Bool) (ps : List Point) → In (line c ps) ls → IsClean (line c ps) → length (from_start (is_cut ls) (line c ps)) ≡ length ps
start_length ls c [] k h = elim h [ ]
start_length ls false (p ∷ ps) k h = refl
start_length ls true (p ∷ ps) k h = turned_length (start_in (is_cut ls) (p ∷ ps)) (p ∷ ps) (ring_start ls p ps k).0

-- the pieces of a line, joined again, are the line from its start
joins : (ls : List Stroke) (s : Stroke) → In s ls → IsClean s → stitched (pieces_of ls s) ≡ from_start (is_cut ls) s
joins ls s k h =
    let two : 2 ≤ length s.positions = grind arith in
    split_joins (is_cut ls) (from_start (is_cut ls) s) (omega (arith, two, start_length ls s.closed s.positions k h))

pub line_or_ring_split : (ls : List Stroke) (s : Stroke) → In s ls → IsClean s → IsSplit (split_of ls s)
line_or_ring_split ls s k h = record { joins = joins ls s k h; segments = split_at_segments (is_cut ls) (from_start (is_cut ls) s) }

-- each of the clean lines is split at its cut positions
pub all_split : (ls : List Stroke) → AllClean ls → AllSplit (map (split_of ls) ls)
all_split ls h = all_made IsSplit (split_of ls) ls (λ s k. line_or_ring_split ls s k (clean_in s ls h k))

-- a segment occurs in two lists as often as in each of them together
times_append : (a b : Point) (xs ys : List Segment) → times a b (xs ++ ys) ≡ times a b xs + times a b ys
times_append a b xs ys = sum_by-append (λ s. cond (is_segment a b s) 1 0) xs ys

-- a line from its start has each segment as often as the line
times_start : (ls : List Stroke) (a b : Point) (c : Bool) (ps : List Point) → In (line c ps) ls → IsClean (line c ps) →
    times a b (segments (from_start (is_cut ls) (line c ps))) ≡ times a b (segments ps)
times_start ls a b c [] k h = elim h [ ]
times_start ls a b c (p ∷ []) k h = elim h [ ]
times_start ls a b false (p ∷ (q ∷ ps)) k h = refl
times_start ls a b true (p ∷ (q ∷ ps)) k h =
    let j : ℕ = start_in (is_cut ls) (p ∷ (q ∷ ps)) in
    let n : start_in (is_cut ls) (p ∷ (q ∷ ps)) ≤ length (q ∷ ps) = omega (arith, (ring_start ls p (q ∷ ps) k).0) in
    ap (times a b) (turned_segments j p (q ∷ ps) (h.1 refl) n)
    ∙ times_append a b (segments (drop j (p ∷ (q ∷ ps)))) (segments_from p (take j (q ∷ ps)))
    ∙ add_comm (times a b (segments (drop j (p ∷ (q ∷ ps))))) (times a b (segments_from p (take j (q ∷ ps))))
    ∙ sym (ap (times a b) (segments_split j p (q ∷ ps) n) ∙ times_append a b (segments_from p (take j (q ∷ ps))) (segments (drop j (p ∷ (q ∷ ps)))))

times_from : (ls ms : List Stroke) (a b : Point) → ((s : Stroke) → In s ms → In s ls) → AllClean ms → times a b (piece_segments (all_pieces (map (split_of ls) ms))) ≡ times a b (line_segments ms)
times_from ls [] a b f h = refl
times_from ls (s ∷ ms) a b f h = ap (times a b) (flat_map-append segments (pieces_of ls s) (all_pieces (map (split_of ls) ms)))
    ∙ times_append a b (piece_segments (pieces_of ls s)) (piece_segments (all_pieces (map (split_of ls) ms)))
    ∙ ap (λ l. times a b l + times a b (piece_segments (all_pieces (map (split_of ls) ms)))) (split_at_segments (is_cut ls) (from_start (is_cut ls) s))
    ∙ ap (λ n. n + times a b (piece_segments (all_pieces (map (split_of ls) ms)))) (times_start ls a b s.closed s.positions (f s (inl refl)) h.0)
    ∙ ap (λ n. times a b (segments s.positions) + n) (times_from ls ms a b (λ t k. f t (inr k)) h.1)
    ∙ sym (times_append a b (segments s.positions) (line_segments ms))

-- the pieces of the lines have each segment as often as the lines
pub same_times : (ls : List Stroke) → AllClean ls → (a b : Point) → times a b (piece_segments (all_pieces (map (split_of ls) ls))) ≡ times a b (line_segments ls)
same_times ls h a b = times_from ls ls a b (λ s k. k) h
