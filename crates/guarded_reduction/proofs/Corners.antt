-- Corners and the neighbours on either side of them.
use Rattle.std.proofs.Common.{◌≡◌, ◌≢◌, ℕ, suc, ◌≤◌, List, [], ◌∷◌, ◌++◌, map, ap, sym, ◌∙◌, subst, arith, ◌⊎◌, inl, inr}
use Rattle.std.specs.List.{AllByRecursion}
use Rattle.owned_values.proofs.Members.{in_left, in_right, in_append}
use Rattle.geometry.specs.Lists.{In}
use Rattle.elimination_meaning.specs.Elimination.{Vertex}
use Rattle.guarded_meaning.specs.Arcs.{arc_corner_at, arc_corners, all_corners, Neighbours, neighbours_at, neighbours_from, neighbours, all_neighbours, HasOwnIndexes}

-- ---- ends of neighbours

from_in : (k : ℕ) (a : Vertex) (vs : List Vertex) (j : Neighbours) → In j (neighbours_from k a vs) → In j.from (a ∷ vs) × In j.to vs × (j.arc ≡ k)
from_in k a [] j m = elim m [ ]
from_in k a (b ∷ vs) j (inl e) = (inl (ap (λ (n : Neighbours). n.from) e), inl (ap (λ (n : Neighbours). n.to) e), ap (λ (n : Neighbours). n.arc) e)
from_in k a (b ∷ vs) j (inr m) = let r = from_in k b vs j m in (inr r.0, inr r.1, r.2)

arc_in : (k : ℕ) (vs : List Vertex) (j : Neighbours) → In j (neighbours k vs) → j.arc ≡ k
arc_in k [] j m = elim m [ ]
arc_in k (a ∷ vs) j m = (from_in k a vs j m).2

pub arc_from : (k : ℕ) (arcs : List (List Vertex)) (j : Neighbours) → In j (all_neighbours k arcs) → k ≤ j.arc
arc_from k [] j m = elim m [ ]
arc_from k (vs ∷ arcs) j m = on (in_append j (neighbours k vs) (all_neighbours (suc k) arcs) m) (λ n. arc_from (suc k) arcs j n)
  where
    on : In j (neighbours k vs) ⊎ In j (all_neighbours (suc k) arcs) → (In j (all_neighbours (suc k) arcs) → suc k ≤ j.arc) → k ≤ j.arc
    on (inl n) f = let e = arc_in k vs j n in omega (arith, e)
    on (inr n) f = let l = f n in omega (arith, l)

-- ---- in one arc

abbrev Between : ℕ → List Vertex → Neighbours → Neighbours → Type 0
Between k vs n m = In (arc_corner_at k n.from n.to m.to) (arc_corners k vs)

apart : (a v : Vertex) (vs : List Vertex) → AllByRecursion (λ j. a.index ≢ j) (map (λ w. w.index) vs) → In v vs → a.index ≡ v.index → ⊥
apart a v [] h m e = elim m [ ]
apart a v (w ∷ ws) h (inl q) e = h.0 (e ∙ ap (λ (u : Vertex). u.index) q)
apart a v (w ∷ ws) h (inr m) e = apart a v ws h.1 m e

first_two : (k : ℕ) (a b : Vertex) (vs : List Vertex) (n m : Neighbours) → HasOwnIndexes (b ∷ vs) → n ≡ neighbours_at k a b → In m (neighbours_from k b vs) → n.to.index ≡ m.from.index → Between k (a ∷ (b ∷ vs)) n m
first_two k a b [] n m h e i q = elim i [ ]
first_two k a b (c ∷ vs) n m h e (inl f) q = inl (ap (λ (j : Neighbours). arc_corner_at k j.from j.to m.to) e ∙ ap (λ (j : Neighbours). arc_corner_at k a b j.to) f)
first_two k a b (c ∷ vs) n m h e (inr i) q = absurd (apart b m.from (c ∷ vs) h.0 (from_in k c vs m i).0 (sym (ap (λ (j : Neighbours). j.to.index) e) ∙ q))

later : (k : ℕ) (a b : Vertex) (vs : List Vertex) (n m : Neighbours) → In m (neighbours_from k b vs) → Between k (b ∷ vs) n m → Between k (a ∷ (b ∷ vs)) n m
later k a b [] n m i h = elim i [ ]
later k a b (c ∷ vs) n m i h = inr h

between : (k : ℕ) (a : Vertex) (vs : List Vertex) (n m : Neighbours) → HasOwnIndexes (a ∷ vs) → In n (neighbours_from k a vs) → In m (neighbours_from k a vs) → n.to.index ≡ m.from.index → Between k (a ∷ vs) n m
between k a [] n m h i j q = elim i [ ]
between k a (b ∷ vs) n m h (inl e) (inl f) q = absurd (h.0.0 (sym (sym (ap (λ (w : Neighbours). w.to.index) e) ∙ q ∙ ap (λ (w : Neighbours). w.from.index) f)))
between k a (b ∷ vs) n m h (inl e) (inr j) q = first_two k a b vs n m h.1 e j q
between k a (b ∷ vs) n m h (inr i) (inl f) q = absurd (apart a n.to (b ∷ vs) h.0 (inr (from_in k b vs n i).1) (sym (q ∙ ap (λ (w : Neighbours). w.from.index) f)))
between k a (b ∷ vs) n m h (inr i) (inr j) q = later k a b vs n m j (between k b vs n m h.1 i j q)

in_one : (k : ℕ) (vs : List Vertex) (n m : Neighbours) → HasOwnIndexes vs → In n (neighbours k vs) → In m (neighbours k vs) → n.to.index ≡ m.from.index → Between k vs n m
in_one k [] n m h i j q = elim i [ ]
in_one k (a ∷ vs) n m h i j q = between k a vs n m h i j q

-- ---- in all

-- where two neighbours lead to a place and from it, there is a corner
pub corner_between : (k : ℕ) (arcs : List (List Vertex)) (n m : Neighbours) → AllByRecursion HasOwnIndexes arcs → In n (all_neighbours k arcs) → In m (all_neighbours k arcs) →
    n.arc ≡ m.arc → n.to.index ≡ m.from.index → In (arc_corner_at n.arc n.from n.to m.to) (all_corners k arcs)
corner_between k [] n m h i j e q = elim i [ ]
corner_between k (vs ∷ arcs) n m h i j e q =
    on (in_append n (neighbours k vs) (all_neighbours (suc k) arcs) i) (in_append m (neighbours k vs) (all_neighbours (suc k) arcs) j) (λ u w. corner_between (suc k) arcs n m h.1 u w e q)
  where
    on : In n (neighbours k vs) ⊎ In n (all_neighbours (suc k) arcs) → In m (neighbours k vs) ⊎ In m (all_neighbours (suc k) arcs) →
        (In n (all_neighbours (suc k) arcs) → In m (all_neighbours (suc k) arcs) → In (arc_corner_at n.arc n.from n.to m.to) (all_corners (suc k) arcs)) → In (arc_corner_at n.arc n.from n.to m.to) (arc_corners k vs ++ all_corners (suc k) arcs)
    on (inl u) (inl w) f =
        let a : n.arc ≡ k = arc_in k vs n u in
        in_left (arc_corner_at n.arc n.from n.to m.to) (arc_corners k vs) (all_corners (suc k) arcs)
        (subst (λ (l : ℕ). In (arc_corner_at l n.from n.to m.to) (arc_corners k vs)) (sym a) (in_one k vs n m h.0 u w q))
    on (inl u) (inr w) f = let a = arc_in k vs n u in let b = arc_from (suc k) arcs m w in absurd (omega (arith, a, b, e))
    on (inr u) (inl w) f = let a = arc_in k vs m w in let b = arc_from (suc k) arcs n u in absurd (omega (arith, a, b, e))
    on (inr u) (inr w) f = in_right (arc_corner_at n.arc n.from n.to m.to) (arc_corners k vs) (all_corners (suc k) arcs) (f u w)
