-- Arcs of which only some positions are retained, one after the other.
use Rattle.std.proofs.Common.{◌≡◌, ℕ, zero, suc, ◌+◌, ◌-◌, ◌<◌, ◌≤◌, List, [], ◌∷◌, ◌++◌, map, drop, length, Some, refl, sym, ap, ◌∙◌, arith}
use Rattle.std.proofs.lemmas.List.{drop_all}
use Rattle.elimination_meaning.specs.Rising.{RisesOver, RisesTo}
use Rattle.geometry.specs.Joins.{at}
use Rattle.geometry.specs.Lists.{some_of}
use Rattle.geometry.specs.Points.{Point}
use Rattle.build_meaning.specs.Simplified.{retained, retained_arcs}

-- ---- numbers that each arc has for itself

module _ (numbers : List Point → List ℕ) where
  retained_last : (arcs : List (List Point)) (arc : List Point) → retained_arcs (map numbers (arcs ++ arc ∷ [])) (arcs ++ arc ∷ []) ≡ retained_arcs (map numbers arcs) arcs ++ retained (numbers arc) arc ∷ []
  retained_last [] arc = refl
  retained_last (a ∷ arcs) arc = ap (λ xs. retained (numbers a) a ∷ xs) (retained_last arcs arc)

  pub retained_more : (arcs : List (List Point)) (arc left : List Point) (now new : List (List Point)) → now ≡ retained_arcs (map numbers arcs) arcs → left ≡ retained (numbers arc) arc → new ≡ now ++ left ∷ []
      → new ≡ retained_arcs (map numbers (arcs ++ arc ∷ [])) (arcs ++ arc ∷ [])
  retained_more arcs arc left now new so is e = e ∙ ap (λ xs. xs ++ left ∷ []) so ∙ ap (λ x. retained_arcs (map numbers arcs) arcs ++ x ∷ []) is ∙ sym (retained_last arcs arc)

-- ---- numbers of all cells

rises_at_most : (last i : ℕ) (is : List ℕ) → RisesTo last i is → i + length is ≤ last
rises_at_most last i [] h = omega (arith, h)
rises_at_most last i (j ∷ js) h = omega (arith, h.0, rises_at_most last j js h.1)

pub record Here {X : Type 0} (xs : List X) (i : ℕ) : Type 0 where
  pub x : X
  pub at_is : at xs i ≡ Some x
  pub drop_is : drop i xs ≡ x ∷ drop (suc i) xs

here : {X : Type 0} (xs : List X) (i : ℕ) → i < length xs → Here xs i
here [] i h = absurd (omega (arith, h))
here (x ∷ xs) zero h = record { x = x; at_is = refl; drop_is = refl }
here (x ∷ xs) (suc i) h = let later = here xs i (omega (arith, h)) in record { x = later.x; at_is = later.at_is; drop_is = later.drop_is }

later_ones : {X : Type 0} (xs : List X) (i : ℕ) (is : List ℕ) → RisesTo (length xs - 1) i is → i + length is ≡ length xs - 1 → some_of (at xs) is ≡ drop (suc i) xs
later_ones xs i [] h many = sym (drop_all (suc i) xs (omega (arith, h)))
later_ones xs i (j ∷ js) h many =
    let next : j ≡ suc i = omega (arith, h.0, many, rises_at_most (length xs - 1) j js h.1) in
    let x = here xs j (omega (arith, rises_at_most (length xs - 1) j js h.1, many)) in
    rw x.at_is (ap (λ ys. x.x ∷ ys) (later_ones xs j js h.1 (omega (arith, next, many))) ∙ sym x.drop_is ∙ ap (λ n. drop n xs) next)

pub all_retained : {X : Type 0} (xs : List X) (is : List ℕ) → RisesOver (length xs) is → length is ≡ length xs → retained is xs ≡ xs
all_retained xs [] h many = absurd h
all_retained [] (i ∷ is) h many = absurd (omega (arith, many))
all_retained (x ∷ xs) (i ∷ is) h many = rw h.0 (ap (λ ys. x ∷ ys) (later_ones (x ∷ xs) 0 is (rw h.0 at h.1) (omega (arith, many))))
