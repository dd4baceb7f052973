-- Lists of numbers that are spread over arcs of which only some pass.
use Rattle.std.proofs.Common.{◌≡◌, ℕ, suc, ◌+◌, ◌≤◌, Bool, true, false, cond, List, [], ◌∷◌, map, length, Some, refl, ap, ◌∙◌, arith}
use Rattle.build_meaning.proofs.Names.{AllByRecursion, or_empty, first_of, last_of, tail, Point, numbered, keep_from, all_indexes, spread, retained, retained_arcs, FromFirstToLast, EachFromFirstToLast, numbered_points}
use Rattle.build_meaning.proofs.ValidRetained.{all_stand, points_retained}

-- ---- all numbers

pub all_retained : (ps : List Point) → retained (all_indexes ps) ps ≡ ps
all_retained ps = points_retained ps (numbered 0 ps) (all_stand ps) ∙ numbered_points 0 ps

last_index : (i : ℕ) (p : Point) (ps : List Point) → last_of (map (λ v. v.index) (numbered i (p ∷ ps))) ≡ Some (i + length ps)
last_index i p [] = ap Some (omega arith)
last_index i p (q ∷ ps) = last_index (i + 1) q ps ∙ ap Some (omega arith)

pub all_through : (ps : List Point) → 2 ≤ length ps → FromFirstToLast (length ps) (all_indexes ps)
all_through [] h = absurd (omega (arith, h))
all_through (p ∷ ps) h = (refl, last_index 0 p ps ∙ ap Some (omega arith))

-- ---- lists spread over all arcs

module _ (passes : ℕ → Bool) where
  -- those of the arcs that pass are the lists
  pub spread_left : (n : ℕ) (kept : List (List ℕ)) (arcs : List (List Point)) → EachFromFirstToLast kept (keep_from passes n arcs)
      → keep_from passes n (retained_arcs (spread passes n kept arcs) arcs) ≡ retained_arcs kept (keep_from passes n arcs)
  spread_left n [] [] h = refl
  spread_left n (is ∷ kept) [] h = absurd h
  spread_left n kept (ps ∷ arcs) h = on (passes n) refl kept h (λ more k. spread_left (suc n) more arcs k)
    where
      on : (b : Bool) → passes n ≡ b → (kept : List (List ℕ)) → EachFromFirstToLast kept (cond b (ps ∷ keep_from passes (suc n) arcs) (keep_from passes (suc n) arcs))
          → ((more : List (List ℕ)) → EachFromFirstToLast more (keep_from passes (suc n) arcs)
          → keep_from passes (suc n) (retained_arcs (spread passes (suc n) more arcs) arcs) ≡ retained_arcs more (keep_from passes (suc n) arcs))
          → keep_from passes n (retained_arcs (cond b (or_empty (first_of kept) ∷ spread passes (suc n) (tail kept) arcs) (all_indexes ps ∷ spread passes (suc n) kept arcs)) (ps ∷ arcs))
          ≡ retained_arcs kept (cond b (ps ∷ keep_from passes (suc n) arcs) (keep_from passes (suc n) arcs))
      on true e [] h f = absurd h
      on true e (is ∷ kept) h f =
          ap (λ b. cond b (retained is ps ∷ keep_from passes (suc n) (retained_arcs (spread passes (suc n) kept arcs) arcs)) (keep_from passes (suc n) (retained_arcs (spread passes (suc n) kept arcs) arcs))) e
          ∙ ap (λ more. retained is ps ∷ more) (f kept h.1)
      on false e kept h f =
          ap (λ b. cond b (retained (all_indexes ps) ps ∷ keep_from passes (suc n) (retained_arcs (spread passes (suc n) kept arcs) arcs)) (keep_from passes (suc n) (retained_arcs (spread passes (suc n) kept arcs) arcs))) e
          ∙ f kept h

  -- each begins with the first and ends with the last
  pub spread_through : (n : ℕ) (kept : List (List ℕ)) (arcs : List (List Point)) → AllByRecursion (λ a. 2 ≤ length a) arcs → EachFromFirstToLast kept (keep_from passes n arcs)
      → EachFromFirstToLast (spread passes n kept arcs) arcs
  spread_through n kept [] long h = tt
  spread_through n kept (ps ∷ arcs) long h = on (passes n) kept h (λ more k. spread_through (suc n) more arcs long.1 k)
    where
      on : (b : Bool) (kept : List (List ℕ)) → EachFromFirstToLast kept (cond b (ps ∷ keep_from passes (suc n) arcs) (keep_from passes (suc n) arcs))
          → ((more : List (List ℕ)) → EachFromFirstToLast more (keep_from passes (suc n) arcs) → EachFromFirstToLast (spread passes (suc n) more arcs) arcs)
          → EachFromFirstToLast (cond b (or_empty (first_of kept) ∷ spread passes (suc n) (tail kept) arcs) (all_indexes ps ∷ spread passes (suc n) kept arcs)) (ps ∷ arcs)
      on true [] h f = absurd h
      on true (is ∷ kept) h f = (h.0, f kept h.1)
      on false kept h f = (all_through ps long.0, f kept h)
