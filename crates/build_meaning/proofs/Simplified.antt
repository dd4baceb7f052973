-- What is built of layers at a threshold and a limit of zero and then reduced by both is what is built of them by both.
use Rattle.std.proofs.Common.{rules, arith, ◌≡◌, ℕ, ℤ, Bool, false, cond, List, map, None, Some}
use Rattle.build_meaning.proofs.Names.{all_two, then_some, Point, Small, clean, is_short, Stroke, linework, pieces, from_start, index_in, reduced, DirectionLaw, ZeroLaw, all_arcs, kept_refs, cleaned, own_pieces, own_cause, rebuilt, is_small, kept_line, AreSound, whole_line, objects_by, keep_from, renumbered, line_renumbered, small_cause, large_refs, objects_pruned, same_stitched, In, AreDistinct as Apart, interior, is_cut, Named, layers_of, named_lines_and_rings}
use Rattle.build_meaning.proofs.Decoding.{pieces_back}
use Rattle.build_meaning.proofs.Linework.{Line, StandsIn, each_stands, own_apart, own_in}
use Rattle.build_meaning.proofs.Made.{objects_made}
use Rattle.build_meaning.proofs.Trimmed.{AllUsed, all_renumbered}
use Rattle.build_meaning.proofs.Whole.{loses_nothing}

-- ---- nothing is small at zero

module _ (lines : List Stroke) where
  -- what is kept at zero is the whole line, unless it has too few positions
  abbrev pub IsWholeAtZero : Line → Type 0
  IsWholeAtZero b = kept_line lines 0 0 b.0 b.1 ≡ cond (is_short b.0 (clean b.1)) None (Some (from_start (is_cut lines) (cleaned b.0 b.1)))

  pub no_small : (b : Line) → IsWholeAtZero b → is_short b.0 (clean b.1) ≡ false → own_cause lines 0 0 b.0 b.1 ≡ None
  no_small b whole e = grind arith

-- ---- a line's indexes name its own pieces, reduced

module _ (law : DirectionLaw) (lines : List Stroke) (t limit : ℕ) (apart : (p : List Point) → In p (pieces lines) → Apart (interior p)) where
  abbrev arcs : List (List Point)
  arcs = map (reduced t) (all_arcs lines)

  abbrev refs_of : Line → List ℤ
  refs_of b = map (index_in (all_arcs lines)) (own_pieces lines b.0 b.1)

  -- a line of the linework is small when it is rebuilt of the arcs where it is when it is rebuilt of its own pieces
  pub cause_same : (b : Line) → StandsIn lines b → is_short b.0 (clean b.1) ≡ false →
      small_cause limit arcs b.0 (refs_of b) ≡ cond (is_small limit b.0 (rebuilt lines t b.0 b.1)) (Some Small) None
  cause_same b stands e = search (rules, pieces_back, own_in, same_stitched)

  -- what is kept at zero and then reduced is what is kept at the threshold
  line_again : (b : Line) → StandsIn lines b → IsWholeAtZero lines b → then_some (large_refs limit arcs b.0) (kept_refs lines 0 0 b.0 b.1) ≡ kept_refs lines t limit b.0 b.1
  line_again b stands whole = grind (arith, no_small, cause_same)

-- ---- the indexes that are left after some arcs are left out

module _ (limit : ℕ) (u : ℕ → Bool) (arcs : List (List Point)) where
  abbrev fewer : List (List Point)
  fewer = keep_from u 0 arcs

  pub refs_same : (b : Bool × List ℤ) → AllUsed u b → large_refs limit fewer b.0 (map (renumbered u) b.1) ≡ then_some (line_renumbered u b.0) (large_refs limit arcs b.0 b.1)
  refs_same b h = search (arith, all_renumbered u arcs b.1 h)

-- ---- topologies

-- the objects that are built at zero, reduced
pub objects_again : DirectionLaw → ZeroLaw → (t limit : ℕ) (ls : Named) → AreSound ls →
    objects_pruned (large_refs limit (map (reduced t) (all_arcs (linework (layers_of ls))))) (objects_by (kept_refs (linework (layers_of ls)) 0 0) ls) ≡ objects_by (kept_refs (linework (layers_of ls)) t limit) ls
objects_again law zero t limit ls sound =
    let lines : List Stroke = linework (layers_of ls) in
    objects_made (kept_refs lines 0 0) (large_refs limit (map (reduced t) (all_arcs lines))) (kept_refs lines t limit) ls
    (all_two (StandsIn lines) (λ b. kept_line lines 0 0 b.0 b.1 ≡ whole_line ls b.0 b.1)
    (λ b. then_some (large_refs limit (map (reduced t) (all_arcs lines)) b.0) (kept_refs lines 0 0 b.0 b.1) ≡ kept_refs lines t limit b.0 b.1)
    (line_again law lines t limit (own_apart ls sound)) (named_lines_and_rings ls) (each_stands ls) (loses_nothing zero ls sound))
