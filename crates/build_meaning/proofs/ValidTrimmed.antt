-- Where the arcs that no line uses are left out, each index that is used names the same arc as before.
use Rattle.std.proofs.Common.{◌≡◌, ℕ, zero, suc, ◌+◌, ◌<◌, Bool, true, List, [], ◌∷◌, map, length, Option, Some, ap, subst, arith, ℤ, None}
use Rattle.build_meaning.proofs.Names.{TopoShape, objects_pruned, AllByRecursion, all_weaker, number_of, option_lines_and_rings, keep_from, new_index_from, renumbered, line_renumbered, objects_lines_and_rings}
use Rattle.build_meaning.proofs.LinesAndRings.{option_left}
use Rattle.build_meaning.proofs.Reshaped.{Objects, pruned_shape, objects_over}
use Rattle.build_meaning.proofs.Trimmed.{IsUsed}

-- ---- elements that stay

kept_below : {X : Type 0} (used : ℕ → Bool) (n : ℕ) (xs : List X) (i : ℕ) → used (n + i) ≡ true → i < length xs → new_index_from used n i < length (keep_from used n xs)
kept_below used n [] i h lt = absurd (omega (arith, lt))
kept_below {X = X} used n (x ∷ xs) zero h lt = grind arith
kept_below {X = X} used n (x ∷ xs) (suc i) h lt = grind (arith, kept_below used (suc n) xs i)

pub all_kept : {A : Type 0} (X : A → Type 0) (used : ℕ → Bool) (n : ℕ) (xs : List A) → AllByRecursion X xs → AllByRecursion X (keep_from used n xs)
all_kept X used n [] h = tt
all_kept X used n (x ∷ xs) h = grind (arith, all_kept X used (suc n) xs h.1)

-- ---- indexes

module _ (used : ℕ → Bool) where
  below : {X : Type 0} (arcs : List (List X)) (r : ℤ) → IsUsed used r → number_of r < length arcs → number_of (renumbered used r) < length (keep_from used 0 arcs)
  unfolding number_of
  below arcs r h k = grind (arith, kept_below)

  pub all_below : {X : Type 0} (arcs : List (List X)) (refs : List ℤ) → AllByRecursion (IsUsed used) refs → AllByRecursion (λ r. number_of r < length arcs) refs
      → AllByRecursion (λ r. number_of r < length (keep_from used 0 arcs)) (map (renumbered used) refs)
  all_below arcs [] h k = tt
  all_below arcs (r ∷ refs) h k = (below arcs r h.0 k.0, all_below arcs refs h.1 k.1)

-- ---- the lines of the objects

module _ (used : ℕ → Bool) (X : Bool × List ℤ → Type 0) where
  abbrev pub Renumbers : Bool × List ℤ → Type 0
  Renumbers b = X (b.0, map (renumbered used) b.1)

  abbrev or_else : List ℤ → Option (List ℤ) → List ℤ
  or_else d None = d
  or_else d (Some m) = m

  of_shape : (s : Option TopoShape) → AllByRecursion Renumbers (option_lines_and_rings s) → AllByRecursion X (option_lines_and_rings (pruned_shape (λ p. p) (line_renumbered used) s))
  of_shape s h =
      option_left (λ p. p) (line_renumbered used) X s
      (all_weaker Renumbers (λ b. (m : List ℤ) → Some (map (renumbered used) b.1) ≡ Some m → X (b.0, m)) (λ b k m e. subst (λ z. X (b.0, z)) (ap (or_else m) e) k) (option_lines_and_rings s) h)

  pub of_objects : (os : Objects) → AllByRecursion Renumbers (objects_lines_and_rings os) → AllByRecursion X (objects_lines_and_rings (objects_pruned (line_renumbered used) os))
  of_objects os h = objects_over Renumbers X option_lines_and_rings option_lines_and_rings (pruned_shape (λ p. p) (line_renumbered used)) of_shape os h
