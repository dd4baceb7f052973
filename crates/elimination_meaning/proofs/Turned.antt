-- Elimination in the reversed list of vertices removes the same ones.
use Rattle.std.proofs.Common.{◌≡◌, ℕ, zero, suc, Bool, true, false, List, [], ◌∷◌, ◌++◌, Option, Some, None, reverse, refl, ap, sym, ◌∙◌, append-nil, if◌then◌else◌, arith}
use Rattle.std.specs.List.{filter}
use Rattle.std.proofs.lemmas.List.{reverse-append}
use Rattle.std.proofs.lemmas.List.Elements.{filter-append}
use mathlib.Core.List.{reverse-cons}
use Rattle.owned_values.proofs.Tests.{chosen_of}
use Rattle.geometry.specs.Lists.{map_some}
use Rattle.geometry.proofs.Areas.{area_turned}
use Rattle.elimination_meaning.specs.Elimination.{Vertex, Corner, corner_at, corners, corners_from, lesser, least, without_under, next, eliminate}
use Rattle.elimination_meaning.proofs.Order.{lesser_comm, least_append}

from_split : (x y : Vertex) (xs : List Vertex) (a b : Vertex) (ys : List Vertex) → corners_from x y (xs ++ (a ∷ (b ∷ ys))) ≡ corners_from x y (xs ++ (a ∷ (b ∷ []))) ++ corners_from a b ys
from_split x y [] a b ys = refl
from_split x y (z ∷ xs) a b ys = ap (λ l. corner_at x y z ∷ l) (from_split y z xs a b ys)

-- the corners of a list that is split at two of its vertices
pub corners_split : (xs : List Vertex) (a b : Vertex) (ys : List Vertex) → corners (xs ++ (a ∷ (b ∷ ys))) ≡ corners (xs ++ (a ∷ (b ∷ []))) ++ corners_from a b ys
corners_split [] a b ys = refl
corners_split (x ∷ []) a b ys = refl
corners_split (x ∷ (y ∷ xs)) a b ys = from_split x y xs a b ys

corner_turned : (a b c : Vertex) → corner_at c b a ≡ corner_at a b c
corner_turned a b c = ap (λ (n : ℕ). let r : Corner = record { area = n; point = b.point; index = b.index } in r) (area_turned c.point b.point a.point)

from_reverse : (a b : Vertex) (vs : List Vertex) → corners (reverse (a ∷ (b ∷ vs))) ≡ reverse (corners_from a b vs)
from_reverse a b [] = refl
from_reverse a b (c ∷ vs) = ap corners (reverse-append (a ∷ (b ∷ (c ∷ []))) vs) ∙ corners_split (reverse vs) c b (a ∷ [])
    ∙ ap (λ l. corners l ++ (corner_at c b a ∷ [])) (sym (reverse-append (b ∷ (c ∷ [])) vs))
    ∙ ap (λ l. l ++ (corner_at c b a ∷ [])) (from_reverse b c vs)
    ∙ ap (λ k. reverse (corners_from b c vs) ++ (k ∷ [])) (corner_turned a b c) ∙ sym (reverse-cons (corner_at a b c) (corners_from b c vs))

corners_reverse : (vs : List Vertex) → corners (reverse vs) ≡ reverse (corners vs)
corners_reverse vs = grind (arith, from_reverse)

least_reverse : (cs : List Corner) → least (reverse cs) ≡ least cs
least_reverse [] = refl
least_reverse (c ∷ cs) = ap least (reverse-cons c cs) ∙ least_append (reverse cs) (c ∷ [])
    ∙ ap (λ o. lesser o (Some c)) (least_reverse cs) ∙ lesser_comm (least cs) (Some c)

filter_reverse : {X : Type 0} (p : X → Bool) (xs : List X) → filter p (reverse xs) ≡ reverse (filter p xs)
filter_reverse p [] = refl
filter_reverse p (x ∷ xs) =
    ap (filter p) (reverse-cons x xs) ∙ filter-append p (reverse xs) (x ∷ []) ∙ ap (λ l. l ++ filter p (x ∷ [])) (filter_reverse p xs) ∙ on (p x)
  where
    on : (b : Bool) → reverse (filter p xs) ++ (if b then x ∷ [] else []) ≡ reverse (if b then x ∷ filter p xs else filter p xs)
    on true = sym (reverse-cons x (filter p xs))
    on false = append-nil (reverse (filter p xs))

next_reverse : (t : ℕ) (vs : List Vertex) → next t (reverse vs) ≡ map_some reverse (next t vs)
next_reverse t vs = ap (without_under t (reverse vs)) (ap least (corners_reverse vs) ∙ least_reverse (corners vs)) ∙ (grind (
  arith,
  filter_reverse,
  chosen_of,
))

-- elimination goes on with what the first step gives
abbrev pub go_on : ℕ → ℕ → List Vertex → Option (List Vertex) → List Vertex
go_on n t vs None = vs
go_on n t vs (Some ws) = eliminate n t ws

go_reverse : (n t : ℕ) (vs : List Vertex) → ((ws : List Vertex) → eliminate n t (reverse ws) ≡ reverse (eliminate n t ws)) → (o : Option (List Vertex)) → go_on n t (reverse vs) (map_some reverse o) ≡ reverse (go_on n t vs o)
go_reverse n t vs h o = grind arith

pub eliminate_reverse : (n t : ℕ) (vs : List Vertex) → eliminate n t (reverse vs) ≡ reverse (eliminate n t vs)
eliminate_reverse zero t vs = refl
eliminate_reverse (suc n) t vs = ap (go_on n t (reverse vs)) (next_reverse t vs) ∙ go_reverse n t vs (λ ws. eliminate_reverse n t ws) (next t vs)
