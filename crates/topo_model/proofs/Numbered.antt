-- Arcs of which the positions stay whose numbers are given for all arcs at once.
use Rattle.std.proofs.Common.{arith, ◌≡◌, ℕ, ◌≤◌, List, [], ◌∷◌, ◌++◌, map, drop, length, append-nil, refl, sym, ap, ◌∙◌}
use Rattle.std.proofs.lemmas.List.{drop_all}
use Rattle.geometry.specs.Points.{Point}
use Rattle.build_meaning.specs.Simplified.{retained_arcs, EachFromFirstToLast}

pub arcs_all : {K : Type 0} (numbers : K → List ℕ) (ks : List K) (arcs made whole : List (List Point)) (i : ℕ) → length ks ≤ i → made ++ retained_arcs (map numbers (drop i ks)) (drop i arcs) ≡ whole → made ≡ whole
arcs_all numbers ks arcs made whole i le so = sym (append-nil made) ∙ ap (λ l. made ++ retained_arcs (map numbers l) (drop i arcs)) (sym (drop_all i ks le)) ∙ so

-- a list for each arc
pub as_many : {K : Type 0} (numbers : K → List ℕ) (ks : List K) (arcs : List (List Point)) → EachFromFirstToLast (map numbers ks) arcs → length ks ≡ length arcs
as_many numbers [] [] h = refl
as_many numbers [] (a ∷ arcs) h = absurd h
as_many numbers (k ∷ ks) [] h = absurd h
as_many numbers (k ∷ ks) (a ∷ arcs) h = let rest = as_many numbers ks arcs h.1 in omega (arith, rest)
