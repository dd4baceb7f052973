-- Rings of four positions or more keep as many.
use Rattle.std.proofs.Common.{◌≡◌, ◌≢◌, ℕ, zero, suc, ℤ, pos, negsuc, ◌==◌, Bool, true, false, not, ◌||◌, List, [], ◌∷◌, length, map, inl, inr, refl, ap, sym, ◌∙◌, subst, reverse, arith}
use Rattle.guarded_meaning.proofs.Names.{and_parts, or_cases, or_parts, not-true, nat_tests, AllByRecursion, all_of, all_two, all_passed, at, or_empty, arc_at, stitched, number_of, joined, clean, is_short, Vertex, numbered, all_corners, without_at, left_by, points_of, reduced_arcs, is_free, is_long, uses, keeps_rings, guarded_by, RingsStay}
use Rattle.guarded_meaning.proofs.Kept.{eliminate_keeps, points_numbered}

-- ---- arcs of which no corner goes

at_other : (k i n : ℕ) (arcs : List (List Vertex)) → n ≢ k → at (points_of (without_at k i arcs)) n ≡ at (points_of arcs) n
at_other k i n [] h = refl
at_other zero i zero (vs ∷ arcs) h = absurd (h refl)
at_other zero i (suc n) (vs ∷ arcs) h = refl
at_other (suc k) i zero (vs ∷ arcs) h = refl
at_other (suc k) i (suc n) (vs ∷ arcs) h = at_other k i n arcs (λ e. h (ap suc e))

arc_at_other : (k i : ℕ) (r : ℤ) (arcs : List (List Vertex)) → number_of r ≢ k → arc_at (points_of (without_at k i arcs)) r ≡ arc_at (points_of arcs) r
unfolding number_of
arc_at_other k i (pos n) arcs h = ap or_empty (at_other k i n arcs h)
arc_at_other k i (negsuc n) arcs h = ap (λ o. reverse (or_empty o)) (at_other k i n arcs h)

not_number : (m n : ℕ) → (m == n) ≡ false → m ≢ n
not_number m n h = grind (arith, nat_tests)

arcs_at_other : (k i : ℕ) (refs : List ℤ) (arcs : List (List Vertex)) → uses k refs ≡ false → map (arc_at (points_of (without_at k i arcs))) refs ≡ map (arc_at (points_of arcs)) refs
arcs_at_other k i [] arcs h = refl
arcs_at_other k i (r ∷ refs) arcs h =
    let m = or_parts (number_of r == k) (uses k refs) h in
    ap (λ ps. ps ∷ map (arc_at (points_of (without_at k i arcs))) refs) (arc_at_other k i r arcs (not_number (number_of r) k m.0))
    ∙ ap (λ pss. arc_at (points_of arcs) r ∷ pss) (arcs_at_other k i refs arcs m.1)

-- ---- a corner goes

abbrev Long : List (List Vertex) → List ℤ → Type 0
Long arcs refs = is_long (points_of arcs) refs ≡ true

long_left : (k i : ℕ) (arcs : List (List Vertex)) (refs : List ℤ) → Long arcs refs → (not (uses k refs) || is_long (points_of (without_at k i arcs)) refs) ≡ true → Long (without_at k i arcs) refs
long_left k i arcs refs h g = elim (or_cases (not (uses k refs)) (is_long (points_of (without_at k i arcs)) refs) g) [
  | inl e ↦ ap (λ pss. not (is_short true (clean (stitched pss)))) (arcs_at_other k i refs arcs (not-true (uses k refs) e)) ∙ h
  | inr e ↦ e
]

long_step : (b : Bool) (rings : List (List ℤ)) (arcs : List (List Vertex)) → AllByRecursion (Long arcs) rings → AllByRecursion (λ c. guarded_by b rings arcs c ≡ true → AllByRecursion (Long (left_by arcs c)) rings) (all_corners 0 arcs)
unfolding keeps_rings
long_step b rings arcs h = all_of (λ c. guarded_by b rings arcs c ≡ true → AllByRecursion (Long (left_by arcs c)) rings) (all_corners 0 arcs) (λ c m g.
    all_two (Long arcs) (λ refs. (not (uses c.arc refs) || is_long (points_of (left_by arcs c)) refs) ≡ true) (Long (left_by arcs c)) (λ refs x y. long_left c.arc c.corner.index arcs refs x y) rings h
    (all_passed (λ refs. not (uses c.arc refs) || is_long (points_of (left_by arcs c)) refs) rings (and_parts (not b || is_free arcs c) (keeps_rings rings arcs c) g).1))

pub rings_stay : RingsStay
unfolding reduced_arcs
rings_stay b rings t arcs h =
    eliminate_keeps (guarded_by b rings) t (λ left. AllByRecursion (Long left) rings) (long_step b rings) (length (joined arcs)) (map (numbered 0) arcs)
    (subst (λ more. AllByRecursion (λ refs. is_long more refs ≡ true) rings) (sym (points_numbered arcs)) h)
