-- The positions of arcs that stay by their weights.
use Rattle.std.proofs.Common.{◌≡◌, ◌∙◌, ℕ, ◌+◌, ◌<◌, ◌≤◌, List, [], ◌∷◌, ◌++◌, length, get_or, map, take, ap, arith, refl, subst, sym}
use Rattle.std.specs.List.{filter_map, sum_by}
use Rattle.std.proofs.lemmas.List.{length-append, map-append}
use Rattle.std.proofs.lemmas.List.Sums.{sum_by-cons}
use Rattle.owned_values.proofs.Lists.{take_here}
use Rattle.effective_area.proofs.CappedShares.{capped_more}
use Rattle.effective_area.proofs.Stopped.{weights_length}
use Rattle.effective_area.specs.Capped.{AreCapped, IsCapped}
use Rattle.effective_area.specs.Shares.{KeptAtIsReduced, area_of, interior_weights, kept_at}
use Rattle.effective_area.specs.Weights.{weights_of}
use Rattle.effective_area.specs.declared.weight.Weight.{Weight}
use Rattle.effective_area.specs.declared.weight.Weight.TheVariants.{End, Area}
use Rattle.elimination_meaning.specs.Elimination.{reduce}
use Rattle.geometry.specs.Points.{Point}

-- they are those that stay where each arc is reduced
each_is_reduced : KeptAtIsReduced → (t : ℕ) (arcs : List (List Point)) → map (kept_at t) (map weights_of arcs) ≡ map (reduce t) arcs
each_is_reduced is t [] = refl
each_is_reduced is t (arc ∷ arcs) = ap (λ i. i ∷ map (kept_at t) (map weights_of arcs)) (is t arc) ∙ ap (λ is. reduce t arc ∷ is) (each_is_reduced is t arcs)

module _ {V : Type 0} (items : V → List Weight) (t : ℕ) where
  each_kept : (vs : List V) → map (λ v. kept_at t (items v)) vs ≡ map (kept_at t) (map items vs)
  each_kept [] = refl
  each_kept (v ∷ vs) = ap (λ is. kept_at t (items v) ∷ is) (each_kept vs)

  -- vectors by whose weights the positions stay that stay by those of the arcs keep what reduction keeps
  pub all_are_reduced : KeptAtIsReduced → (vs : List V) (arcs : List (List Point)) → map (kept_at t) (map items vs) ≡ map (kept_at t) (map weights_of arcs) → map (λ v. kept_at t (items v)) vs ≡ map (reduce t) arcs
  all_are_reduced is vs arcs e = each_kept vs ∙ e ∙ each_is_reduced is t arcs

-- ---- no more positions lie between the ends than there are

fewer : (ws : List Weight) → length (filter_map area_of ws) ≤ length ws
fewer [] = omega arith
fewer (End ∷ ws) = omega (arith, fewer ws)
fewer (Area area ∷ ws) = omega (arith, fewer ws)

pub between_ends : (arcs : List (List Point)) → length (interior_weights (map weights_of arcs)) ≤ sum_by length arcs
between_ends [] = omega arith
between_ends (arc ∷ arcs) =
    omega (
      arith,
      fewer (weights_of arc),
      weights_length arc,
      length-append (filter_map area_of (weights_of arc)) (interior_weights (map weights_of arcs)),
      sum_by-cons (λ (l : List Point). length l) arc arcs,
      between_ends arcs,
    )

-- ---- one arc more

pub capped_with : {V : Type 0} (items : V → List Weight) (most i : ℕ) (arcs : List (List Point)) (arc : List Point) (vs : List V) (v : V) → i < length arcs → arc ≡ get_or arcs i arc
    → AreCapped most (map weights_of (take i arcs)) (map items vs) → IsCapped most (weights_of arc) (items v) → AreCapped most (map weights_of (take (i + 1) arcs)) (map items (vs ++ (v ∷ [])))
capped_with items most i arcs arc vs v within is h k =
    subst (λ l. AreCapped most l (map items (vs ++ (v ∷ [])))) (sym (ap (map weights_of) (take_here arcs i arc within is) ∙ map-append weights_of (take i arcs) (arc ∷ [])))
    (subst (λ l. AreCapped most (map weights_of (take i arcs) ++ (weights_of arc ∷ [])) l) (sym (map-append items vs (v ∷ [])))
    (capped_more most (map weights_of (take i arcs)) (map items vs) (weights_of arc) (items v) h k))
