-- The arcs of lines, and the indexes of one of the lines: they are in range, their arcs meet, and those of a ring close.
use Rattle.std.proofs.Common.{◌≡◌, ◌<◌, ◌≤◌, true, List, [], ◌∷◌, map, length, ap, sym, ◌∙◌, subst, inl, inr, ℤ}
use Rattle.build_meaning.proofs.Names.{AllByRecursion, all_of, all_made, in_append, number_of, arc_at, Meet, Closes, Point, IsClean, AllClean, is_cut, Stroke, clean_start, line_or_ring_split, in_flat, structured, clean_in, segments, arcs_unlike, arc_is_piece, piece_has_alike, index_is, named_is, named_all, pieces_meet, rings_close, arcs_of, index_in, pieces_of, pieces, IsSplit, started, split_of, In}
use Rattle.cutter.specs.Structure.{PiecesAreLong}
use Rattle.arc_table.proofs.Growth.{map_same}
use Rattle.arc_table.specs.Growth.{first_alike}

module _ (lines : List Stroke) (clean : AllClean lines) where
  abbrev arcs : List (List Point)
  arcs = arcs_of (pieces lines)

  abbrev index : List Point → ℤ
  index = index_in (arcs_of (pieces lines))

  long : PiecesAreLong (pieces lines)
  long = (structured lines clean).long

  -- each arc has two positions or more
  pub arcs_long : AllByRecursion (λ arc. 2 ≤ length arc) (arcs_of (pieces lines))
  arcs_long = all_of (λ arc. 2 ≤ length arc) arcs (λ x k. long x (arc_is_piece x (pieces lines) k))

  piece_index : (x : List Point) → In x (pieces lines) → index x ≡ first_alike arcs x
  piece_index x k = index_is arcs x (arcs_unlike (pieces lines)) (piece_has_alike x (pieces lines) k)

  module _ (s : Stroke) (k : In s lines) where
    inside : (x : List Point) → In x (pieces_of lines s) → In x (pieces lines)
    inside x m = in_flat (pieces_of lines) s x lines k m

    split : IsSplit (split_of lines s)
    split = line_or_ring_split lines s k (clean_in s lines clean k)

    begun : IsClean (started (is_cut lines) s)
    begun = clean_start lines s.closed s.positions k (clean_in s lines clean k)

    named : map (arc_at arcs) (map index (pieces_of lines s)) ≡ pieces_of lines s
    named =
        ap (map (arc_at arcs)) (map_same index (first_alike arcs) (pieces_of lines s) (λ x m. piece_index x (inside x m)))
        ∙ named_all arcs (pieces_of lines s) (λ x m. piece_has_alike x (pieces lines) (inside x m))

    pub ranged : AllByRecursion (λ r. number_of r < length (arcs_of (pieces lines))) (map (index_in (arcs_of (pieces lines))) (pieces_of lines s))
    ranged =
        all_made (λ r. number_of r < length arcs) index (pieces_of lines s)
        (λ x m. subst (λ z. number_of z < length arcs) (sym (piece_index x (inside x m))) (named_is arcs x (piece_has_alike x (pieces lines) (inside x m))).1)

    pub met : Meet (map (arc_at (arcs_of (pieces lines))) (map (index_in (arcs_of (pieces lines))) (pieces_of lines s)))
    met = subst Meet (sym named) (pieces_meet (pieces_of lines s) (λ x m. long x (inside x m)) (split.segments ∙ ap segments (sym split.joins)))

    pub closed : s.closed ≡ true → Closes (map (arc_at (arcs_of (pieces lines))) (map (index_in (arcs_of (pieces lines))) (pieces_of lines s)))
    closed =
        (rings_close arcs (split_of lines s ∷ []) (map index (pieces_of lines s) ∷ [])
        (λ x m. elim (in_append x (pieces_of lines s) [] m) [ inl h ↦ long x (inside x h) | inr h ↦ elim h [ ] ])
        (split, tt) (begun, tt) (ap (λ xs. xs ∷ []) named)).0
