-- The arcs that lines use, part by part.
use Rattle.std.proofs.Common.{arith, ◌≡◌, ℕ, ◌≤◌, ℤ, Bool, true, ◌||◌, List, [], ◌∷◌, map, length, take, refl, ap, ◌∙◌}
use Rattle.std.specs.List.{list_any}
use Rattle.std.proofs.lemmas.List.{take_all}
use Rattle.std.proofs.lemmas.List.Folds.{list_any-append}
use Rattle.topo_model.specs.Marks.{also_set, names_arc}
use Rattle.topo_model.proofs.Marked.{any_of}
use Rattle.geometry.specs.Lists.{joined}
use Rattle.topo_model.specs.ArcUses.{any_uses}

-- ---- loops

-- all parts of a loop are gone over
pub all_marked : {X : Type 0} (names : X → ℕ → Bool) (xs : List X) (i : ℕ) (used old : List Bool) → length xs ≤ i → used ≡ also_set (any_of names (take i xs)) 0 old → used ≡ also_set (any_of names xs) 0 old
all_marked names xs i used old le k = k ∙ ap (λ ys. also_set (any_of names ys) 0 old) (take_all i xs le)

-- the lines of parts
pub of_joined : {X : Type 0} (f : X → List (Bool × List ℤ)) (n : ℕ) (xs : List X) → any_uses (joined (map f xs)) n ≡ list_any (λ x. any_uses (f x) n) xs
of_joined f n [] = refl
of_joined f n (x ∷ xs) = list_any-append (λ b. names_arc b.1 n) (f x) (joined (map f xs)) ∙ ap (λ b. any_uses (f x) n || b) (of_joined f n xs)

pub of_tagged : (closed : Bool) (n : ℕ) (ls : List (List ℤ)) → any_uses (map (λ l. (closed, l)) ls) n ≡ list_any (λ l. names_arc l n) ls
of_tagged closed n [] = refl
of_tagged closed n (l ∷ ls) = ap (λ b. names_arc l n || b) (of_tagged closed n ls)

pub of_rings : (n : ℕ) (areas : List (List (List ℤ))) → any_uses (joined (map (map (λ l. (true, l))) areas)) n ≡ list_any (λ rs. list_any (λ l. names_arc l n) rs) areas
of_rings n [] = refl
of_rings n (rs ∷ areas) = grind (arith, list_any-append, of_tagged true n rs, of_rings n areas)
