-- Reduced arcs: those that are left of a topology, as positions, and their ends.
use Rattle.std.proofs.Common.{◌≡◌, ℕ, suc, ◌-◌, ◌≤◌, Bool, List, [], ◌∷◌, map, length, Option, None, Some, refl, sym, ap, ◌∙◌, subst}
use Rattle.build_meaning.proofs.Names.{length-map, AllByRecursion, last_of, Point, placed_arcs, place_on, Transform, sub_all, Vertex, numbered, Sublist, none, keep, skip, remaining_arcs, reduce_arcs, reduced_arcs, EachTo, IsThinned, keep_from, ArcsRetainedAreReduced, retained_arcs, FromFirstToLast, EachFromFirstToLast}
use Rattle.owned_values.proofs.Tests.{holds_of_chosen}
use Rattle.elimination_meaning.specs.Rising.{RisesTo, RisesOver}
use Rattle.guarded_meaning.proofs.Thinned.{remaining_thinned}
use Rattle.guarded_meaning.specs.Arcs.{points_of}
use Rattle.build_meaning.proofs.Celled.{arcs_map}
use Rattle.build_meaning.proofs.ValidRetained.{Stands, all_stand, points_retained}

-- ---- which arcs are left

each_retained : (left : List (List Vertex)) (arcs : List (List Point)) → EachTo IsThinned left (map (numbered 0) arcs) → retained_arcs (map (map (λ v. v.index)) left) arcs ≡ points_of left
each_retained [] [] h = refl
each_retained [] (ps ∷ arcs) h = absurd h
each_retained (vs ∷ left) [] h = absurd h
each_retained (vs ∷ left) (ps ∷ arcs) h =
    ap (λ a. a ∷ retained_arcs (map (map (λ v. v.index)) left) arcs) (points_retained ps vs (sub_all (Stands ps) h.0.0 (all_stand ps)))
    ∙ ap (λ more. map (λ v. v.point) vs ∷ more) (each_retained left arcs h.1)

pub retained_are_reduced : ArcsRetainedAreReduced
unfolding reduce_arcs reduced_arcs
retained_are_reduced guard t arcs = each_retained (remaining_arcs guard t arcs) arcs (remaining_thinned guard t arcs)

-- arcs are placed one by one
pub placed_retained : (transform : Option Transform) (kept : List (List ℕ)) (arcs : List (List Point)) → placed_arcs transform (retained_arcs kept arcs) ≡ retained_arcs kept (placed_arcs transform arcs)
placed_retained None kept arcs = refl
placed_retained (Some t) kept arcs = sym (arcs_map (place_on t) kept arcs)

-- ---- the ends of arcs

rises_last : (last i : ℕ) (is : List ℕ) → RisesTo last i is → last_of (i ∷ is) ≡ Some last
rises_last last i [] h = ap Some h
rises_last last i (j ∷ is) h = rises_last last j is h.1

through : (n : ℕ) (is : List ℕ) → RisesOver n is → FromFirstToLast n is
through n [] h = absurd h
through n (i ∷ is) h = (ap Some h.0, rises_last (n - 1) i is h.1)

abbrev IsLong : List Point → Type 0
IsLong ps = 2 ≤ length ps

abbrev Rises : List ℕ → List Point → Type 0
Rises is ps = 2 ≤ length ps → RisesOver (length ps) is

pub each_through : (kept : List (List ℕ)) (arcs : List (List Point)) → EachTo Rises kept arcs → AllByRecursion IsLong arcs → EachFromFirstToLast kept arcs
each_through [] [] h long = tt
each_through [] (ps ∷ arcs) h long = absurd h
each_through (is ∷ kept) [] h long = absurd h
each_through (is ∷ kept) (ps ∷ arcs) h long = (through (length ps) is (h.0 long.0), each_through kept arcs h.1 long.1)

placed_long : (f : Point → Point) (arcs : List (List Point)) → AllByRecursion IsLong arcs → AllByRecursion IsLong (map (map f) arcs)
placed_long f [] h = tt
placed_long f (ps ∷ arcs) h = (subst (λ n. 2 ≤ n) (sym (length-map ps f)) h.0, placed_long f arcs h.1)

unplaced : (f : Point → Point) (kept : List (List ℕ)) (arcs : List (List Point)) → EachFromFirstToLast kept (map (map f) arcs) → EachFromFirstToLast kept arcs
unplaced f [] [] h = tt
unplaced f [] (ps ∷ arcs) h = absurd h
unplaced f (is ∷ kept) [] h = absurd h
unplaced f (is ∷ kept) (ps ∷ arcs) h = (subst (λ n. FromFirstToLast n is) (length-map ps f) h.0, unplaced f kept arcs h.1)

pub placed_through : (transform : Option Transform) (kept : List (List ℕ)) (arcs : List (List Point)) → EachTo Rises kept (placed_arcs transform arcs) → AllByRecursion IsLong arcs → EachFromFirstToLast kept arcs
placed_through None kept arcs h long = each_through kept arcs h long
placed_through (Some t) kept arcs h long = unplaced (place_on t) kept arcs (each_through kept (map (map (place_on t)) arcs) h (placed_long (place_on t) arcs long))

-- ---- some of the arcs

pub sub_left : {X : Type 0} (passes : ℕ → Bool) (n : ℕ) (xs : List X) → Sublist (keep_from passes n xs) xs
sub_left passes n [] = none
sub_left passes n (x ∷ xs) =
    holds_of_chosen (λ l. Sublist l (x ∷ xs)) (passes n) (x ∷ keep_from passes (suc n) xs) (keep_from passes (suc n) xs) (keep (sub_left passes (suc n) xs)) (skip (sub_left passes (suc n) xs))
