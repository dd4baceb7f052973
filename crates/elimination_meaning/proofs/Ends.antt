-- The ends of a line stay: a corner that is removed has the index of neither.
use Rattle.std.proofs.Common.{◌≡◌, ℕ, zero, suc, ◌+◌, ◌<◌, ◌≤◌, Bool, true, false, not, List, [], ◌∷◌, ◌++◌, Option, Some, None, length, map, refl, ap, sym, ◌∙◌, subst, arith, if◌then◌else◌, ◌==◌, nat_lt}
use Rattle.std.specs.List.{AllByRecursion}
use Rattle.std.proofs.lemmas.Bool.Decides.{nat_tests}
use Rattle.std.proofs.lemmas.List.{map-append}
use Rattle.std.proofs.lemmas.List.Elements.{filter-append}
use Rattle.geometry.specs.Lists.{all_but_last_of, interior}
use Rattle.geometry.specs.Points.{Point}
use Rattle.elimination_meaning.specs.Elimination.{Vertex, Corner, corners, least, without, without_under, next, eliminate, numbered, reduce, reduced}
use Rattle.elimination_meaning.specs.Laws.{EndsStay}
use Rattle.elimination_meaning.proofs.Direction.{numbered_append}
use Rattle.elimination_meaning.proofs.Steps.{Holds, least_between, vertex, vertex_of}
use Rattle.elimination_meaning.proofs.Sublists.{sub_all, sub_filter}
use Rattle.elimination_meaning.proofs.Turned.{go_on}

abbrev pub ended : Vertex → List Vertex → Vertex → List Vertex
ended a vs b = a ∷ (vs ++ (b ∷ []))

-- it has the index of neither end
abbrev pub IsOther : Vertex → Vertex → Vertex → Type 0
IsOther a b v = ((a.index == v.index) ≡ false) × ((b.index == v.index) ≡ false)

-- it ends with these two, and no other has the index of one of them
pub record HasEnds (a b : Vertex) (vs : List Vertex) : Type 0 where
  pub inner : List Vertex
  pub shape : vs ≡ ended a inner b
  pub others : AllByRecursion (IsOther a b) inner

all_but_last_of_ended : (v : Vertex) (vs : List Vertex) (b : Vertex) → all_but_last_of v (vs ++ (b ∷ [])) ≡ v ∷ vs
all_but_last_of_ended v [] b = refl
all_but_last_of_ended v (w ∷ vs) b = ap (λ l. v ∷ l) (all_but_last_of_ended w vs b)

interior_ended : (a : Vertex) (vs : List Vertex) (b : Vertex) → interior (ended a vs b) ≡ vs
interior_ended a [] b = refl
interior_ended a (v ∷ vs) b = all_but_last_of_ended v vs b

without_ended : (i : ℕ) (a : Vertex) (vs : List Vertex) (b : Vertex) → (a.index == i) ≡ false → (b.index == i) ≡ false → without i (ended a vs b) ≡ ended a (without i vs) b
without_ended i a vs b h k = grind (arith, filter-append)

next_ended : (t : ℕ) (a b : Vertex) (vs : List Vertex) → AllByRecursion (IsOther a b) vs → Holds (HasEnds a b) (next t (ended a vs b))
next_ended t a b vs h =
    by_least (least (corners (ended a vs b))) (least_between (IsOther a b) (ended a vs b) (subst (λ l. AllByRecursion (IsOther a b) l) (sym (interior_ended a vs b)) h))
  where
    on : (i : ℕ) → (a.index == i) ≡ false → (b.index == i) ≡ false → (x : Bool) → Holds (HasEnds a b) (if x then Some (without i (ended a vs b)) else None)
    on i e f true = record { inner = without i vs; shape = without_ended i a vs b e f; others = sub_all (IsOther a b) (sub_filter (λ v. not (v.index == i)) vs) h }
    on i e f false = tt

    by_least : (o : Option Corner) → Holds (λ c. IsOther a b (vertex_of c)) o → Holds (HasEnds a b) (without_under t (ended a vs b) o)
    by_least o k = grind (arith, on)

next_ends : (t : ℕ) (a b : Vertex) (vs : List Vertex) → HasEnds a b vs → Holds (HasEnds a b) (next t vs)
next_ends t a b vs h = subst (λ l. Holds (HasEnds a b) (next t l)) (sym h.shape) (next_ended t a b h.inner h.others)

go_ends : (n t : ℕ) (a b : Vertex) (vs : List Vertex) → HasEnds a b vs → ((ws : List Vertex) → HasEnds a b ws → HasEnds a b (eliminate n t ws)) →
    (o : Option (List Vertex)) → Holds (HasEnds a b) o → HasEnds a b (go_on n t vs o)
go_ends n t a b vs h k o m = grind arith

pub eliminate_ends : (n t : ℕ) (a b : Vertex) (vs : List Vertex) → HasEnds a b vs → HasEnds a b (eliminate n t vs)
eliminate_ends zero t a b vs h = h
eliminate_ends (suc n) t a b vs h = go_ends n t a b vs h (λ ws k. eliminate_ends n t a b ws k) (next t vs) (next_ends t a b vs h)

numbered_others : (p q : Point) (n i : ℕ) (ps : List Point) → 0 < i → i + length ps ≤ n → AllByRecursion (IsOther (vertex 0 p) (vertex n q)) (numbered i ps)
numbered_others p q n i [] h k = tt
numbered_others p q n i (r ∷ ps) h k = grind (arith, nat_tests, numbered_others p q n (i + 1) ps (omega (arith, h)) (omega (arith, k)))

pub numbered_ends : (p q : Point) (ps : List Point) → HasEnds (vertex 0 p) (vertex (1 + length ps) q) (numbered 0 (p ∷ (ps ++ (q ∷ []))))
numbered_ends p q ps = grind (arith, numbered_append 1 ps (q ∷ []), numbered_others p q (1 + length ps) 1 ps (omega arith) (omega arith))

pub ends_stay : EndsStay
unfolding reduced
ends_stay t p q ps =
    let h = eliminate_ends (length (p ∷ (ps ++ (q ∷ [])))) t _ _ _ (numbered_ends p q ps) in
    (map (λ v. v.point) h.inner, ap (map (λ v. v.point)) h.shape ∙ ap (λ l. p ∷ l) (map-append (λ v. v.point) h.inner (vertex (1 + length ps) q ∷ [])))

-- the indexes that stay begin with 0 and end with the last one
pub index_ends_stay : (t : ℕ) (p q : Point) (ps : List Point) → (between : List ℕ) × (reduce t (p ∷ (ps ++ (q ∷ []))) ≡ 0 ∷ (between ++ ((1 + length ps) ∷ [])))
unfolding reduce
index_ends_stay t p q ps =
    let h = eliminate_ends (length (p ∷ (ps ++ (q ∷ [])))) t _ _ _ (numbered_ends p q ps) in
    (map (λ v. v.index) h.inner, ap (map (λ v. v.index)) h.shape ∙ ap (λ l. 0 ∷ l) (map-append (λ v. v.index) h.inner (vertex (1 + length ps) q ∷ [])))
