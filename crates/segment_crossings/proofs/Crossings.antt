-- Pairs of segments that meet badly, put one after another.
use Rattle.std.proofs.Common.{◌≡◌, ℕ, zero, suc, ◌+◌, ◌<◌, ◌≤◌, true, false, List, [], ◌∷◌, ◌++◌, length, map, min, take, drop, refl, ap, sym, ◌∙◌, append_assoc, if◌then◌else◌, arith}
use Rattle.std.specs.List.{filter}
use Rattle.std.proofs.lemmas.List.{length-append, length-map, nil_from_length, take_min}
use Rattle.guarded_meaning.specs.Segments.{Segment, meets_badly, bad_pairs}
use Rattle.segment_crossings.specs.Crossings.{crossing_of, crossing_pairs, pairs_with}
use Rattle.segment_crossings.specs.declared.crossing.Crossing.{Crossing}
use Rattle.segment_crossings.specs.declared.line.Line.{Line}
use Rattle.segment_crossings.specs.Gathering.{AreSame}
use Rattle.segment_crossings.specs.Lines.{as_segment, bad_from, line_at, pairs_from}
use Rattle.segment_crossings.proofs.Counts.{among_same, itself, one}
use Rattle.segment_crossings.proofs.Lines.{ahead, later_fewer, one_ahead}

-- ---- so many are enough

pairs_length : (ss : List Segment) → length (crossing_pairs ss) ≡ bad_pairs ss
pairs_length [] = refl
pairs_length (s ∷ ss) =
    let e = length-append (pairs_with s ss) (crossing_pairs ss) in
    let f = length-map (filter (meets_badly s) ss) (crossing_of s) in
    let g = pairs_length ss in
    omega (arith, e, f, g)

pub enough_pairs : (ss : List Segment) (n most : ℕ) → min n (bad_pairs ss) ≡ min most (bad_pairs ss) → take n (crossing_pairs ss) ≡ take most (crossing_pairs ss)
enough_pairs ss n most h =
    let all = crossing_pairs ss in
    sym (take_min n all) ∙ ap (λ k. take k all) (ap (min n) (pairs_length ss) ∙ h ∙ sym (ap (min most) (pairs_length ss))) ∙ take_min most all

-- ---- the first of two lists, and no more than so many

taken_twice : {X : Type 0} → (n : ℕ) (xs ys : List X) → take n (take n xs ++ ys) ≡ take n (xs ++ ys)
taken_twice zero xs ys = refl
taken_twice (suc n) [] ys = refl
taken_twice (suc n) (x ∷ xs) ys = ap (λ zs. x ∷ zs) (taken_twice n xs ys)

-- ---- the pairs of a segment

module _ (ls : List Line) (l : Line) (r : ℕ) (within : r < length ls) where
  here : pairs_from ls l r ≡ pairs_with (as_segment l) (as_segment (line_at ls r) ∷ map as_segment (drop (r + 1) ls))
  here = ap (λ ks. pairs_with (as_segment l) (map as_segment ks)) (ahead ls r within)

  abbrev rest : List Segment
  rest = filter (meets_badly (as_segment l)) (map as_segment (drop (r + 1) ls))

  pub one_pair : meets_badly (as_segment l) (as_segment (line_at ls r)) ≡ true → pairs_from ls l r ≡ crossing_of (as_segment l) (as_segment (line_at ls r)) ∷ pairs_from ls l (r + 1)
  one_pair h = here ∙ ap (λ b. map (crossing_of (as_segment l)) (if b then as_segment (line_at ls r) ∷ rest else rest)) h

  pub no_pair : meets_badly (as_segment l) (as_segment (line_at ls r)) ≡ false → pairs_from ls l r ≡ pairs_from ls l (r + 1)
  no_pair h = here ∙ ap (λ b. map (crossing_of (as_segment l)) (if b then as_segment (line_at ls r) ∷ rest else rest)) h

-- one more is put, or the segment makes no pair
pub one_put : {X : Type 0} → (n : ℕ) (xs ys all : List X) (y : X) (zs : List X) → zs ≡ y ∷ ys → take n (xs ++ zs) ≡ all → take n ((xs ++ y ∷ []) ++ ys) ≡ all
one_put n xs ys all y zs e was = ap (take n) (append_assoc xs (y ∷ []) ys ∙ ap (λ ws. xs ++ ws) (sym e)) ∙ was

-- ---- all pairs

module _ (ls near : List Line) (r : ℕ) (within : r < length ls) (h : AreSame (map as_segment ls) (map as_segment near)) where
  abbrev own : Line
  own = line_at ls r

  -- it meets itself badly
  alone : bad_from near own 0 ≤ 1 → pairs_from ls own (r + 1) ≡ []
  alone few =
      let e : bad_from near own 0 ≡ bad_from ls own 0 = among_same (as_segment own) (map as_segment ls) (map as_segment near) h in
      let f = later_fewer ls own 0 r (omega arith) in
      let g = one_ahead ls own r within in
      let k = ap one (itself (as_segment own)) in
      let none : bad_from ls own (r + 1) ≡ 0 = omega (arith, few, e, f, g, k) in
      nil_from_length (pairs_from ls own (r + 1)) (length-map (filter (meets_badly (as_segment own)) (map as_segment (drop (r + 1) ls))) (crossing_of (as_segment own)) ∙ none)

  next_pairs : crossing_pairs (map as_segment (drop r ls)) ≡ pairs_from ls own (r + 1) ++ crossing_pairs (map as_segment (drop (r + 1) ls))
  next_pairs = ap (λ ks. crossing_pairs (map as_segment ks)) (ahead ls r within)

  pub left_out : (n : ℕ) (cs all : List Crossing) → bad_from near own 0 ≤ 1 → take n (cs ++ crossing_pairs (map as_segment (drop r ls))) ≡ all → take n (cs ++ crossing_pairs (map as_segment (drop (r + 1) ls))) ≡ all
  left_out n cs all few was = ap (λ zs. take n (cs ++ zs)) (sym (next_pairs ∙ ap (λ zs. zs ++ crossing_pairs (map as_segment (drop (r + 1) ls))) (alone few))) ∙ was

  pub pairs_put : (n : ℕ) (cs ks all : List Crossing) → ks ≡ take n (cs ++ pairs_from ls own (r + 1)) → take n (cs ++ crossing_pairs (map as_segment (drop r ls))) ≡ all → take n (ks ++ crossing_pairs (map as_segment (drop (r + 1) ls))) ≡ all
  pairs_put n cs ks all put was =
      let rest = crossing_pairs (map as_segment (drop (r + 1) ls)) in
      ap (λ zs. take n (zs ++ rest)) put ∙ taken_twice n (cs ++ pairs_from ls own (r + 1)) rest ∙ ap (take n) (append_assoc cs (pairs_from ls own (r + 1)) rest ∙ ap (λ zs. cs ++ zs) (sym next_pairs)) ∙ was
