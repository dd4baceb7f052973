-- Rings are no longer where arcs have fewer positions.
use Rattle.std.proofs.Common.{◌≡◌, ℕ, zero, suc, ℤ, pos, negsuc, ◌≤◌, Bool, true, false, not, ◌==◌, nat_lt, List, [], ◌∷◌, length, map, reverse, if◌then◌else◌, arith}
use mathlib.Core.List.{reverse_aux}
use Rattle.guarded_meaning.proofs.Names.{nat_tests, same_is, at, or_empty, arc_at, joined_after_first, stitched, Point, same, clean, clean_from, sub_same, sub_tail, sub_map, sub_filter, Vertex, without, Sublist, none, keep, skip, without_at, points_of, ring_of, is_long, EachTo}
use Rattle.guarded_meaning.proofs.Lists.{sub_both, sub_passed}

-- ---- fewer positions, with equal neighbours as one

abbrev runs : Point → List Point → ℕ
runs p ps = length (clean_from p ps)

one_more : (b : Bool) (p : Point) (ps : List Point) → length ps ≤ length (if b then ps else p ∷ ps)
one_more true p ps = omega arith
one_more false p ps = omega arith

at_most_one : (b : Bool) (p : Point) (ps : List Point) → length (if b then ps else p ∷ ps) ≤ suc (length ps)
at_most_one true p ps = omega arith
at_most_one false p ps = omega arith

-- another first position makes one run more at most
other_first : (p q : Point) (ps : List Point) → runs p ps ≤ suc (runs q ps)
other_first p q [] = omega arith
other_first p q (r ∷ ps) = grind (arith, one_more (same q r) q (clean_from r ps), at_most_one (same p r) p (clean_from r ps))

runs_fewer : {ps qs : List Point} → Sublist ps qs → (p : Point) → runs p ps ≤ runs p qs
runs_fewer none p = omega arith
runs_fewer (keep {x} {xs} {ys} s) p = grind (arith, runs_fewer s x)
runs_fewer (skip {y} {xs} {ys} s) p = grind (arith, same_is p y, runs_fewer s p, runs_fewer s y, other_first p y xs)

clean_fewer : {ps qs : List Point} → Sublist ps qs → length (clean ps) ≤ length (clean qs)
clean_fewer none = omega arith
clean_fewer (keep {x} s) = runs_fewer s x
clean_fewer (skip {y} {xs} {ys} s) = on xs (runs_fewer s y)
  where
    on : (rs : List Point) → runs y rs ≤ runs y ys → length (clean rs) ≤ runs y ys
    on [] h = omega arith
    on (r ∷ rs) h = grind (arith, one_more (same y r) y (clean_from r rs))

-- ---- reversed

sub_onto : {X : Type 0} {xs ys zs ws : List X} → Sublist xs ys → Sublist zs ws → Sublist (reverse_aux xs zs) (reverse_aux ys ws)
sub_onto none r = r
sub_onto (keep s) r = sub_onto s (keep r)
sub_onto (skip s) r = sub_onto s (skip r)

sub_turned : {X : Type 0} {xs ys : List X} → Sublist xs ys → Sublist (reverse xs) (reverse ys)
sub_turned s = sub_onto s none

-- ---- arcs

abbrev AreFewer : {X : Type 0} → List (List X) → List (List X) → Type 0
AreFewer xss yss = EachTo Sublist xss yss

fewer_same : {X : Type 0} (xss : List (List X)) → AreFewer xss xss
fewer_same [] = tt
fewer_same (xs ∷ xss) = (sub_same xs, fewer_same xss)

fewer_points : (xss yss : List (List Vertex)) → AreFewer xss yss → AreFewer (points_of xss) (points_of yss)
fewer_points [] [] h = tt
fewer_points [] (ys ∷ yss) h = absurd h
fewer_points (xs ∷ xss) [] h = absurd h
fewer_points (xs ∷ xss) (ys ∷ yss) h = (sub_map (λ v. v.point) h.0, fewer_points xss yss h.1)

fewer_one : (k m : ℕ) (arcs : List (List Vertex)) → AreFewer (without_at k m arcs) arcs
fewer_one k m [] = tt
fewer_one zero m (vs ∷ arcs) = (sub_filter (λ v. not (v.index == m)) vs, fewer_same arcs)
fewer_one (suc k) m (vs ∷ arcs) = (sub_same vs, fewer_one k m arcs)

-- without two vertices fewer are left than without one
pub fewer_left : (j i k m : ℕ) (arcs : List (List Vertex)) → AreFewer (without_at j i (without_at k m arcs)) (without_at j i arcs)
fewer_left j i k m [] = tt
fewer_left zero i zero m (vs ∷ arcs) = (sub_passed (λ v. not (v.index == i)) (sub_filter (λ v. not (v.index == m)) vs), fewer_same arcs)
fewer_left zero i (suc k) m (vs ∷ arcs) = (sub_same (without i vs), fewer_one k m arcs)
fewer_left (suc j) i zero m (vs ∷ arcs) = (sub_filter (λ v. not (v.index == m)) vs, fewer_same (without_at j i arcs))
fewer_left (suc j) i (suc k) m (vs ∷ arcs) = (sub_same vs, fewer_left j i k m arcs)

-- ---- rings

fewer_at : (n : ℕ) (xss yss : List (List Point)) → AreFewer xss yss → Sublist (or_empty (at xss n)) (or_empty (at yss n))
fewer_at n [] [] h = none
fewer_at n [] (ys ∷ yss) h = absurd h
fewer_at n (xs ∷ xss) [] h = absurd h
fewer_at zero (xs ∷ xss) (ys ∷ yss) h = h.0
fewer_at (suc n) (xs ∷ xss) (ys ∷ yss) h = fewer_at n xss yss h.1

fewer_arc : (r : ℤ) (xss yss : List (List Point)) → AreFewer xss yss → Sublist (arc_at xss r) (arc_at yss r)
fewer_arc (pos n) xss yss h = fewer_at n xss yss h
fewer_arc (negsuc n) xss yss h = sub_turned (fewer_at n xss yss h)

fewer_later : (refs : List ℤ) (xss yss : List (List Point)) → AreFewer xss yss → Sublist (joined_after_first (map (arc_at xss) refs)) (joined_after_first (map (arc_at yss) refs))
fewer_later [] xss yss h = none
fewer_later (r ∷ refs) xss yss h = sub_both (sub_tail (fewer_arc r xss yss h)) (fewer_later refs xss yss h)

fewer_in_ring : (refs : List ℤ) (xss yss : List (List Point)) → AreFewer xss yss → Sublist (stitched (map (arc_at xss) refs)) (stitched (map (arc_at yss) refs))
fewer_in_ring [] xss yss h = none
fewer_in_ring (r ∷ refs) xss yss h = sub_both (fewer_arc r xss yss h) (fewer_later refs xss yss h)

short_still : (m n : ℕ) → m ≤ n → not (nat_lt n 4) ≡ false → not (nat_lt m 4) ≡ false
short_still m n l e = grind (arith, nat_tests)

-- a ring that is too short of more positions is so of fewer
pub still_short : (refs : List ℤ) (xss yss : List (List Vertex)) → AreFewer xss yss → is_long (points_of yss) refs ≡ false → is_long (points_of xss) refs ≡ false
still_short refs xss yss h e = short_still (length (ring_of (points_of xss) refs)) (length (ring_of (points_of yss) refs)) (clean_fewer (fewer_in_ring refs (points_of xss) (points_of yss) (fewer_points xss yss h))) e
