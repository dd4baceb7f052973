-- Rings by the numbers that their arcs have where only some are left.
use Rattle.std.proofs.Common.{◌≡◌, ◌∙◌, ℕ, ℤ, pos, Bool, List, [], ◌∷◌, map, length, refl, sym, ap, subst}
use Rattle.std.specs.List.{AllByRecursion}
use Rattle.build_meaning.specs.Trimming.{new_index_from, renumbered}
use Rattle.geometry.specs.Joins.{AreInRange}
use Rattle.topo_model.specs.Renumbering.{renumbered_by}
use Rattle.topo_model.specs.Uses.{answers}
use Rattle.topo_model.proofs.Renumbered.{NewIndexesOf, all_renumbered}

-- rings by the new numbers of arcs are renumbered as among the arcs that pass
all_rings : (new_indexes : List ℤ) (u : ℕ → Bool) (rings : List (List ℤ)) → NewIndexesOf new_indexes u → AllByRecursion (AreInRange (length new_indexes)) rings → map (map (renumbered_by new_indexes)) rings ≡ map (map (renumbered u)) rings
all_rings new_indexes u [] are h = refl
all_rings new_indexes u (refs ∷ rings) are h =
    ap (λ (r : List ℤ). r ∷ map (map (renumbered_by new_indexes)) rings) (all_renumbered new_indexes u refs are h.0) ∙ ap (λ (rs : List (List ℤ)). map (renumbered u) refs ∷ rs) (all_rings new_indexes u rings are h.1)

pub rings_renumbered : (u : ℕ → Bool) (used : List Bool) (new_indexes : List ℤ) (rings : List (List ℤ)) → length new_indexes ≡ length used
    → new_indexes ≡ answers (λ i. pos (new_index_from u 0 i)) 0 (length used) → AllByRecursion (AreInRange (length used)) rings → map (map (renumbered_by new_indexes)) rings ≡ map (map (renumbered u)) rings
rings_renumbered u used new_indexes rings many are h =
    all_rings new_indexes u rings (are ∙ ap (answers (λ i. pos (new_index_from u 0 i)) 0) (sym many)) (subst (λ n. AllByRecursion (AreInRange n) rings) (sym many) h)
