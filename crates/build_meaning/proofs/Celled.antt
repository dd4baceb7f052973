-- What is left of arcs, lines and topologies on a grid is what is left of them, put on the grid.
use Rattle.std.proofs.Common.{rules, arith, ◌≡◌, ◌==◌, ℕ, zero, suc, ℤ, Bool, List, [], ◌∷◌, map, Option, None, Some, refl, sym, ap, ◌∙◌, map-id}
use Rattle.build_meaning.proofs.Names.{AllByRecursion, list_any, agreed, composed, at, number_of, map_some, then_some, with_some, Point, prune, TopoShape, Contents, objects_lines_and_rings, place_on, Transform, is_used, keep_from, line_renumbered, trimmed, objects_celled, celled, LiesBack, Refs, retained, retained_arcs, objects_pruned}
use Rattle.build_meaning.proofs.Again.{all_hold}
use Rattle.build_meaning.proofs.Objects.{lines_placed}
use Rattle.build_meaning.proofs.Reshaped.{Objects, pruned_shape, objects_same, objects_twice}
use Rattle.build_meaning.proofs.Trimmed.{kept_of_map}
use Rattle.build_meaning.proofs.ValidRetained.{all_retained}

-- ---- arcs

pub at_map : {A B : Type 0} (f : A → B) (xs : List A) (i : ℕ) → at (map f xs) i ≡ map_some f (at xs i)
at_map f [] i = refl
at_map f (x ∷ xs) zero = refl
at_map f (x ∷ xs) (suc i) = at_map f xs i

retained_map : {A B : Type 0} (f : A → B) (is : List ℕ) (xs : List A) → retained is (map f xs) ≡ map f (retained is xs)
retained_map f [] xs = refl
retained_map f (i ∷ is) xs = ap (λ o. with_some o (retained is (map f xs))) (at_map f xs i) ∙ ap (with_some (map_some f (at xs i)))
    (retained_map f is xs) ∙ (grind arith)

pub arcs_map : (f : Point → Point) (kept : List (List ℕ)) (arcs : List (List Point)) → retained_arcs kept (map (map f) arcs) ≡ map (map f) (retained_arcs kept arcs)
arcs_map f [] arcs = refl
arcs_map f (is ∷ kept) [] = refl
arcs_map f (is ∷ kept) (a ∷ arcs) = ap (λ x. x ∷ retained_arcs kept (map (map f) arcs)) (retained_map f is a) ∙ ap (λ xs. map f (retained is a) ∷ xs) (arcs_map f kept arcs)

module _ (transform : Transform) (cell : Point → Point) where
  abbrev Lies : List Point → Type 0
  Lies ps = AllByRecursion (LiesBack transform cell) ps

  lies_back : (ps : List Point) → Lies ps → map (place_on transform) (map cell ps) ≡ ps
  lies_back [] h = refl
  lies_back (p ∷ ps) h = ap (λ q. q ∷ map (place_on transform) (map cell ps)) h.0 ∙ ap (λ l. p ∷ l) (lies_back ps h.1)

  pub all_lie_back : (arcs : List (List Point)) → AllByRecursion Lies arcs → map (map (place_on transform)) (map (map cell) arcs) ≡ arcs
  all_lie_back [] h = refl
  all_lie_back (a ∷ arcs) h = ap (λ x. x ∷ map (map (place_on transform)) (map (map cell) arcs)) (lies_back a h.0) ∙ ap (λ xs. a ∷ xs) (all_lie_back arcs h.1)

  pub retained_lie : (kept : List (List ℕ)) (arcs : List (List Point)) → AllByRecursion Lies arcs → AllByRecursion Lies (retained_arcs kept arcs)
  retained_lie [] arcs h = tt
  retained_lie (is ∷ kept) [] h = tt
  retained_lie (is ∷ kept) (a ∷ arcs) h = (all_retained (LiesBack transform cell) is a h.0, retained_lie kept arcs h.1)

  -- ---- objects

  as_it_is : {A : Type 0} (o : Option A) → then_some (λ a. Some a) o ≡ o
  as_it_is o = grind arith

  abbrev same_refs : Refs
  same_refs closed refs = Some refs

  module _ (kept : Refs) where
    shape_turn : (s : Option TopoShape) → then_some (prune (λ (p : Point). p) kept) (then_some (prune cell same_refs) s) ≡ then_some (prune cell same_refs) (then_some (prune (λ (p : Point). p) kept) s)
    shape_turn None = refl
    shape_turn (Some s) = search (rules, composed, agreed, all_hold, as_it_is)

    objects_turn : (os : Objects) → objects_pruned kept (objects_celled cell os) ≡ objects_celled cell (objects_pruned kept os)
    objects_turn os =
        objects_twice (pruned_shape (λ p. p) kept) (pruned_shape cell same_refs) os
        ∙ objects_same (λ s. pruned_shape (λ p. p) kept (pruned_shape cell same_refs s)) (λ s. pruned_shape cell same_refs (pruned_shape (λ p. p) kept s)) shape_turn os
        ∙ sym (objects_twice (pruned_shape cell same_refs) (pruned_shape (λ p. p) kept) os)

  -- the same lines, so the same arcs are used
  pub objects_lines : (os : Objects) → objects_lines_and_rings (objects_celled cell os) ≡ objects_lines_and_rings os
  objects_lines os = lines_placed cell (λ refs. refs) os ∙ map-id (objects_lines_and_rings os)

  -- ---- topologies

  abbrev used_in : List (Bool × List ℤ) → ℕ → Bool
  used_in bs i = list_any (λ b. list_any (λ r. number_of r == i) b.1) bs

  abbrev by_used : Contents → (ℕ → Bool) → Contents
  by_used y u = record { objects = objects_pruned (line_renumbered u) (objects_celled cell y.objects); arcs = keep_from u 0 (map (map cell) y.arcs); transform = Some transform }

  pub trimmed_celled : (y : Contents) → trimmed (celled transform cell y) ≡ celled transform cell (trimmed y)
  unfolding trimmed celled
  trimmed_celled y =
      ap (λ bs. by_used y (used_in bs)) (objects_lines y.objects)
      ∙ ap (λ os. record { objects = os; arcs = keep_from (is_used y.objects) 0 (map (map cell) y.arcs); transform = Some transform }) (objects_turn (line_renumbered (is_used y.objects)) y.objects)
      ∙ ap (λ arcs. record { objects = objects_celled cell (objects_pruned (line_renumbered (is_used y.objects)) y.objects); arcs = arcs; transform = Some transform })
      (sym (kept_of_map (map cell) (is_used y.objects) 0 y.arcs))
