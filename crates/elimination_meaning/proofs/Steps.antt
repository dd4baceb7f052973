-- One step: the least corner is one of the vertices between the ends, and what is left is a sublist.
use Rattle.std.proofs.Common.{◌≡◌, ℕ, zero, suc, ◌+◌, false, List, [], ◌∷◌, Option, Some, None, length, map, refl, ap, sym, ◌∙◌, subst, arith, nat_lt}
use Rattle.std.specs.List.{AllByRecursion}
use Rattle.std.proofs.lemmas.Bool.Decides.{nat_tests}
use Rattle.owned_values.proofs.Elements.{all_of_map}
use Rattle.owned_values.proofs.Tests.{holds_of_chosen}
use Rattle.geometry.specs.Lists.{all_but_last_of, interior}
use Rattle.geometry.specs.Points.{Point}
use Rattle.elimination_meaning.specs.Elimination.{Vertex, Corner, corners, corners_from, lesser, least, next, eliminate, numbered, reduced}
use Rattle.elimination_meaning.specs.Laws.{ZeroLaw, NoneIsNew}
use Rattle.elimination_meaning.specs.Sublists.{Sublist}
use Rattle.elimination_meaning.proofs.Sublists.{sub_same, sub_chain, sub_map, sub_filter}
use Rattle.elimination_meaning.proofs.Turned.{go_on}

abbrev pub vertex : ℕ → Point → Vertex
vertex i p = record { index = i; point = p }

-- the vertex of a corner
abbrev pub vertex_of : Corner → Vertex
vertex_of c = vertex c.index c.point

-- ---- what holds of an option's element, if there is one

abbrev pub Holds : {X : Type 0} → (X → Type 0) → Option X → Type 0
Holds P None = Unit {0}
Holds P (Some x) = P x

lesser_holds : (P : Corner → Type 0) (c : Corner) (o : Option Corner) → P c → Holds P o → Holds P (lesser (Some c) o)
lesser_holds P c o h k = grind (arith, holds_of_chosen)

pub least_holds : (P : Corner → Type 0) (cs : List Corner) → AllByRecursion P cs → Holds P (least cs)
least_holds P [] h = tt
least_holds P (c ∷ cs) h = lesser_holds P c (least cs) h.0 (least_holds P cs h.1)

-- ---- the vertices of the corners are those between the ends

from_vertices : (a b : Vertex) (vs : List Vertex) → map vertex_of (corners_from a b vs) ≡ all_but_last_of b vs
from_vertices a b [] = refl
from_vertices a b (c ∷ vs) = ap (λ l. b ∷ l) (from_vertices b c vs)

pub corner_vertices : (vs : List Vertex) → map vertex_of (corners vs) ≡ interior vs
corner_vertices vs = grind (arith, from_vertices)

pub least_between : (P : Vertex → Type 0) (vs : List Vertex) → AllByRecursion P (interior vs) → Holds (λ c. P (vertex_of c)) (least (corners vs))
least_between P vs h = least_holds (λ c. P (vertex_of c)) (corners vs) (all_of_map P vertex_of (corners vs) (subst (λ l. AllByRecursion P l) (sym (corner_vertices vs)) h))

-- ---- what is left is a sublist

pub next_sub : (t : ℕ) (vs : List Vertex) → Holds (λ ws. Sublist ws vs) (next t vs)
next_sub t vs = grind (arith, holds_of_chosen, sub_filter)

go_sub : (n t : ℕ) (vs : List Vertex) → ((ws : List Vertex) → Sublist (eliminate n t ws) ws) → (o : Option (List Vertex)) → Holds (λ ws. Sublist ws vs) o → Sublist (go_on n t vs o) vs
go_sub n t vs h o k = grind (arith, sub_same, sub_chain)

pub eliminate_sub : (n t : ℕ) (vs : List Vertex) → Sublist (eliminate n t vs) vs
eliminate_sub zero t vs = sub_same vs
eliminate_sub (suc n) t vs = go_sub n t vs (λ ws. eliminate_sub n t ws) (next t vs) (next_sub t vs)

pub numbered_points : (i : ℕ) (ps : List Point) → map (λ v. v.point) (numbered i ps) ≡ ps
numbered_points i [] = refl
numbered_points i (p ∷ ps) = ap (λ l. p ∷ l) (numbered_points (i + 1) ps)

pub none_is_new : NoneIsNew
unfolding reduced
none_is_new t ps = grind (arith, numbered_points, sub_map, eliminate_sub)

-- ---- at a threshold of zero

none_under : (n : ℕ) → nat_lt n 0 ≡ false
none_under n = grind (arith, nat_tests)

pub eliminate_zero : (n : ℕ) (vs : List Vertex) → eliminate n 0 vs ≡ vs
eliminate_zero n vs = grind (arith, go_on, none_under)

pub nothing_under_zero : ZeroLaw
unfolding reduced
nothing_under_zero ps = ap (map (λ v. v.point)) (eliminate_zero (length ps) (numbered 0 ps)) ∙ numbered_points 0 ps
