-- Where the positions between the ends are distinct, elimination doesn't depend on the indexes.
use Rattle.std.proofs.Common.{◌≡◌, ◌≢◌, ℕ, zero, suc, List, [], ◌∷◌, Option, Some, None, map, refl, ap, sym, ◌∙◌, subst, ◌==◌, arith}
use Rattle.std.specs.Ordering.{is_lt}
use Rattle.owned_values.proofs.Elements.{all_of_map}
use Rattle.owned_values.proofs.Tests.{chosen_of}
use Rattle.geometry.specs.Lists.{map_some, interior, AreDistinct}
use Rattle.geometry.specs.Points.{Point}
use Rattle.elimination_meaning.specs.Elimination.{Vertex, Corner, corner_at, corners_from, corners, is_before, lesser, least, without, without_under, next, eliminate}
use Rattle.geometry.proofs.Points.{point_exact}
use Rattle.elimination_meaning.proofs.Steps.{vertex, vertex_of, Holds, least_holds, corner_vertices, next_sub}
use Rattle.elimination_meaning.proofs.Sublists.{sub_tail, sub_all_but_last, sub_map, sub_apart}
use Rattle.elimination_meaning.proofs.Turned.{go_on}
use Rattle.elimination_meaning.specs.Sublists.{Sublist}

-- a vertex whose index is replaced by another, at the position that it has
abbrev pub relabelled : (ℕ → ℕ) → Vertex → Vertex
relabelled f v = vertex (f v.index) v.point

abbrev recorner : (ℕ → ℕ) → Corner → Corner
recorner f c = record { area = c.area; point = c.point; index = f c.index }

-- the positions between the ends
abbrev pub between : List Vertex → List Point
between vs = map (λ v. v.point) (interior vs)

-- ---- the order of corners

before_relabelled : (f : ℕ → ℕ) (c d : Corner) → d.point ≢ c.point → is_before (recorner f c) (recorner f d) ≡ is_before c d
unfolding is_before
before_relabelled f c d h = grind (arith, is_lt, point_exact)

lesser_relabelled : (f : ℕ → ℕ) (c : Corner) (o : Option Corner) → Holds (λ d. c.point ≢ d.point) o →
    lesser (Some (recorner f c)) (map_some (recorner f) o) ≡ map_some (recorner f) (lesser (Some c) o)
lesser_relabelled f c o h = grind (arith, before_relabelled, chosen_of)

least_relabelled : (f : ℕ → ℕ) (cs : List Corner) → AreDistinct (map (λ c. c.point) cs) → least (map (recorner f) cs) ≡ map_some (recorner f) (least cs)
least_relabelled f [] h = refl
least_relabelled f (c ∷ cs) h = ap (lesser (Some (recorner f c))) (least_relabelled f cs h.1)
    ∙ lesser_relabelled f c (least cs) (least_holds (λ d. c.point ≢ d.point) cs (all_of_map (λ q. c.point ≢ q) (λ d. d.point) cs h.0))

-- ---- corners

from_relabelled : (f : ℕ → ℕ) (a b : Vertex) (vs : List Vertex) → corners_from (relabelled f a) (relabelled f b) (map (relabelled f) vs) ≡ map (recorner f) (corners_from a b vs)
from_relabelled f a b [] = refl
from_relabelled f a b (c ∷ vs) = ap (λ l. recorner f (corner_at a b c) ∷ l) (from_relabelled f b c vs)

points_of_corners : (cs : List Corner) → map (λ v. v.point) (map vertex_of cs) ≡ map (λ c. c.point) cs
points_of_corners [] = refl
points_of_corners (c ∷ cs) = ap (λ l. c.point ∷ l) (points_of_corners cs)

corners_apart : (vs : List Vertex) → AreDistinct (between vs) → AreDistinct (map (λ c. c.point) (corners vs))
corners_apart vs h = subst (λ l. AreDistinct l) (sym (ap (map (λ v. v.point)) (corner_vertices vs)) ∙ points_of_corners (corners vs)) h

next_apart : (t : ℕ) (vs : List Vertex) → AreDistinct (between vs) → Holds (λ ws. AreDistinct (between ws)) (next t vs)
next_apart t vs h = on (next t vs) (next_sub t vs)
  where
    on : (o : Option (List Vertex)) → Holds (λ ws. Sublist ws vs) o → Holds (λ ws. AreDistinct (between ws)) o
    on None s = tt
    on (Some ws) s = sub_apart (sub_map (λ v. v.point) (sub_all_but_last (sub_tail s))) h

-- ---- elimination

module _ (f : ℕ → ℕ) (one_to_one : (a b : ℕ) → (f a == f b) ≡ (a == b)) where
  without_relabelled : (i : ℕ) (vs : List Vertex) → without (f i) (map (relabelled f) vs) ≡ map (relabelled f) (without i vs)
  without_relabelled i [] = refl
  without_relabelled i (v ∷ vs) = grind (arith, chosen_of, without_relabelled i vs)

  under_relabelled : (t : ℕ) (vs : List Vertex) (o : Option Corner) → without_under t (map (relabelled f) vs) (map_some (recorner f) o) ≡ map_some (map (relabelled f)) (without_under t vs o)
  under_relabelled t vs o = grind (arith, without_relabelled, chosen_of)

  next_relabelled : (t : ℕ) (vs : List Vertex) → AreDistinct (between vs) → next t (map (relabelled f) vs) ≡ map_some (map (relabelled f)) (next t vs)
  next_relabelled t vs h = grind (arith, from_relabelled, least_relabelled, corners_apart, under_relabelled)

  pub eliminate_relabelled : (n t : ℕ) (vs : List Vertex) → AreDistinct (between vs) → eliminate n t (map (relabelled f) vs) ≡ map (relabelled f) (eliminate n t vs)
  eliminate_relabelled zero t vs h = refl
  eliminate_relabelled (suc n) t vs h = grind (arith, go_on, next_relabelled, next_apart, eliminate_relabelled n t)
