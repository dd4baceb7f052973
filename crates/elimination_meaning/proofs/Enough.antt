-- There are steps enough: where elimination ends, no corner is under the threshold.
use Rattle.std.proofs.Common.{◌≡◌, ℕ, zero, suc, ◌+◌, ◌<◌, ◌≤◌, Bool, not, List, [], ◌∷◌, Option, Some, None, length, refl, ap, arith, nat_lt}
use Rattle.std.specs.List.{filter, AllByRecursion}
use Rattle.std.proofs.lemmas.List.Filters.{length-filter_both}
use Rattle.owned_values.proofs.Elements.{all_weaker}
use Rattle.owned_values.proofs.Tests.{holds_of_chosen}
use Rattle.geometry.specs.Points.{Point}
use Rattle.elimination_meaning.specs.Elimination.{Vertex, Corner, corners, least, without, without_under, next, eliminate, numbered}
use Rattle.elimination_meaning.specs.Laws.{NoneIsLeft}
use Rattle.elimination_meaning.proofs.Steps.{Holds, least_between, vertex_of}
use Rattle.elimination_meaning.proofs.Sublists.{sub_interior, sub_all}
use Rattle.elimination_meaning.proofs.Turned.{go_on}

-- the list is shorter without the index of this vertex
abbrev Shortens : List Vertex → Vertex → Type 0
Shortens vs v = length (without v.index vs) < length vs

not_longer : {X : Type 0} (p : X → Bool) (xs : List X) → length (filter p xs) ≤ length xs
not_longer p xs = omega (arith, length-filter_both p (λ x. not (p x)) (λ x. refl) xs)

shortens_later : (w v : Vertex) (vs : List Vertex) → Shortens vs v → Shortens (w ∷ vs) v
shortens_later w v vs h = grind (arith, holds_of_chosen)

all_shorten : (vs : List Vertex) → AllByRecursion (Shortens vs) vs
all_shorten [] = tt
all_shorten (v ∷ vs) = (
  (grind (arith, not_longer)),
  all_weaker (Shortens vs) (Shortens (v ∷ vs)) (λ w h. shortens_later v w vs h) vs
      (all_shorten vs),
)

pub next_shorter : (t : ℕ) (vs : List Vertex) → Holds (λ ws. length ws < length vs) (next t vs)
next_shorter t vs = by_least (least (corners vs)) (least_between (Shortens vs) vs (sub_all (Shortens vs) (sub_interior vs) (all_shorten vs)))
  where
    by_least : (o : Option Corner) → Holds (λ c. Shortens vs (vertex_of c)) o → Holds (λ ws. length ws < length vs) (without_under t vs o)
    by_least o h = grind (arith, holds_of_chosen)

go_ends : (n t : ℕ) (vs : List Vertex) → length vs ≤ n + 1 → ((ws : List Vertex) → length ws ≤ n → next t (eliminate n t ws) ≡ None) →
    (o : Option (List Vertex)) → next t vs ≡ o → Holds (λ ws. length ws < length vs) o → next t (go_on n t vs o) ≡ None
go_ends n t vs h k o m e = grind arith

eliminate_ends : (n t : ℕ) (vs : List Vertex) → length vs ≤ n → next t (eliminate n t vs) ≡ None
eliminate_ends zero t [] m = refl
eliminate_ends zero t (v ∷ vs) m = absurd (omega (arith, m))
eliminate_ends (suc n) t vs m = go_ends n t vs (omega (arith, m)) (λ ws k. eliminate_ends n t ws k) (next t vs) refl (next_shorter t vs)

pub length_numbered : (i : ℕ) (ps : List Point) → length (numbered i ps) ≡ length ps
length_numbered i [] = refl
length_numbered i (p ∷ ps) = ap suc (length_numbered (i + 1) ps)

pub none_is_left : NoneIsLeft
none_is_left t ps = eliminate_ends (length ps) t (numbered 0 ps) (let k = length_numbered 0 ps in omega (arith, k))
