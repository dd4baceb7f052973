-- At a threshold and a limit of zero what is expected of a line is the line.
use Rattle.std.proofs.Common.{◌≡◌, ℕ, nat_lt, Bool, ◌&&◌, ◌||◌, cond, List, [], ◌∷◌, map, None, Some, refl, ap, ◌∙◌, arith}
use Rattle.build_meaning.proofs.Names.{nat_tests, all_weaker, twice_ring_area, Point, clean_from, clean, is_short, Moves, IsCleanList, AllClean, is_cut, Stroke, clean_start, line_or_ring_split, start_length, clean_in, In, reduced, ZeroLaw, cleaned, is_small, kept_line, LosesNothing, from_start, pieces_of}
use Rattle.geometry.proofs.Points.{same_is}
use Rattle.cutter.specs.Pieces.{stitched}
use Rattle.build_meaning.proofs.Linework.{Line, StandsIn, all_clean, each_stands}

-- ---- a clean line stays when it is cleaned

moves_stay : (p : Point) (ps : List Point) → Moves p ps → clean_from p ps ≡ p ∷ ps
moves_stay p [] m = refl
moves_stay p (q ∷ ps) m = grind (arith, same_is, moves_stay q ps m.1)

pub clean_stays : (closed : Bool) (ps : List Point) → IsCleanList closed ps → clean ps ≡ ps
clean_stays closed ps h = grind (arith, moves_stay)

-- ---- a line from its start

-- nothing is under zero
none_under : (a c : Bool) (n : ℕ) → (a || (c && nat_lt n 0)) ≡ a
none_under a c n = grind (arith, nat_tests)

-- its pieces, joined again, are the line from its start, which is as long when it is cleaned
line_or_ring_whole : (lines : List Stroke) (s : Stroke) → AllClean lines → In s lines →
    (stitched (pieces_of lines s) ≡ from_start (is_cut lines) s) × (is_small 0 s.closed (from_start (is_cut lines) s) ≡ is_short s.closed s.positions)
line_or_ring_whole lines s h k = (
  (line_or_ring_split lines s k (clean_in s lines h k)).joins,
  none_under (is_short s.closed (clean (from_start (is_cut lines) s))) s.closed (twice_ring_area (from_start (is_cut lines) s))
      ∙ ap (is_short s.closed) (clean_stays s.closed (from_start (is_cut lines) s) (clean_start lines s.closed s.positions k (clean_in s lines h k)))
      ∙ ap (λ n. nat_lt n (cond s.closed 4 2)) (start_length lines s.closed s.positions k (clean_in s lines h k)),
)

-- ---- what is expected at a threshold and a limit of zero

pub each_stays : ZeroLaw → (xs : List (List Point)) → map (reduced 0) xs ≡ xs
each_stays zero [] = refl
each_stays zero (x ∷ xs) = ap (λ y. y ∷ map (reduced 0) xs) (zero x) ∙ ap (λ ys. x ∷ ys) (each_stays zero xs)

line_whole : ZeroLaw → (lines : List Stroke) → AllClean lines → (b : Line) → StandsIn lines b →
    kept_line lines 0 0 b.0 b.1 ≡ cond (is_short b.0 (clean b.1)) None (Some (from_start (is_cut lines) (cleaned b.0 b.1)))
line_whole zero lines h b stands = grind (arith, line_or_ring_whole lines (cleaned b.0 b.1) h, each_stays zero)

-- nothing is removed
pub loses_nothing : ZeroLaw → LosesNothing
loses_nothing zero ls sound = grind (arith, all_weaker, line_whole zero, all_clean ls sound, each_stands ls)
