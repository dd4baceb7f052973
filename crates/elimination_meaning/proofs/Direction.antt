-- A line whose positions between the ends are distinct is reduced to the same positions from its other end.
use Rattle.std.proofs.Common.{◌≡◌, ℕ, ◌+◌, ◌-◌, ◌<◌, ◌≤◌, List, [], ◌∷◌, ◌++◌, length, map, reverse, refl, ap, sym, ◌∙◌, subst, arith, if◌then◌else◌, ◌==◌, nat_lt}
use Rattle.std.specs.List.{AllByRecursion}
use Rattle.std.proofs.lemmas.Bool.Decides.{nat_tests}
use Rattle.std.proofs.lemmas.List.{map-append, length-reverse}
use mathlib.Core.List.{reverse-cons}
use Rattle.geometry.specs.Lists.{all_but_last_of, interior, AreDistinct}
use Rattle.geometry.specs.Points.{Point}
use Rattle.elimination_meaning.specs.Elimination.{Vertex, eliminate, numbered, remaining, reduce, reduced}
use Rattle.elimination_meaning.specs.Laws.{DirectionLaw, IndexDirectionLaw}
use Rattle.elimination_meaning.proofs.Relabelled.{relabelled, between, eliminate_relabelled}
use Rattle.elimination_meaning.proofs.Steps.{vertex, numbered_points, eliminate_sub}
use Rattle.elimination_meaning.proofs.Sublists.{sub_map, sub_all}
use Rattle.elimination_meaning.proofs.Turned.{eliminate_reverse}
use Rattle.owned_values.proofs.Elements.{all_parts, all_map, all_of_map, all_two, all_weaker}
use Rattle.owned_values.proofs.Lists.{map_agree}

-- the index of the same place counted from the other end of so many, one to one
abbrev flipped : ℕ → ℕ → ℕ
flipped n i = if nat_lt i n then n - 1 - i else i

flipped_one : (n a b : ℕ) → (flipped n a == flipped n b) ≡ (a == b)
flipped_one n a b = grind (arith, nat_tests)

flipped_at : (n k : ℕ) → k < n → flipped n (0 + k) + k + 1 ≡ 0 + n
flipped_at n k h = grind (arith, nat_tests)

pub numbered_append : (i : ℕ) (ps qs : List Point) → numbered i (ps ++ qs) ≡ numbered i ps ++ numbered (i + length ps) qs
numbered_append i [] qs = let e : i + 0 ≡ i = omega arith in ap (λ k. numbered k qs) (sym e)
numbered_append i (p ∷ ps) qs = grind (arith, vertex, numbered_append (i + 1) ps qs)

pub map_reverse : {X Y : Type 0} (f : X → Y) (xs : List X) → map f (reverse xs) ≡ reverse (map f xs)
map_reverse f [] = refl
map_reverse f (x ∷ xs) = ap (map f) (reverse-cons x xs) ∙ map-append f (reverse xs) (x ∷ []) ∙ ap (λ l. l ++ (f x ∷ [])) (map_reverse f xs)
    ∙ sym (reverse-cons (f x) (map f xs))

map_points : (f : ℕ → ℕ) (vs : List Vertex) → map (λ v. v.point) (map (relabelled f) vs) ≡ map (λ v. v.point) vs
map_points f [] = refl
map_points f (v ∷ vs) = ap (λ l. v.point ∷ l) (map_points f vs)

-- the reversed positions numbered are the numbered ones reversed, with the indexes counted from the other end
numbered_reverse : (f : ℕ → ℕ) (i j : ℕ) (ps : List Point) → ((k : ℕ) → k < length ps → f (i + k) + k + 1 ≡ j + length ps) →
    numbered j (reverse ps) ≡ reverse (map (relabelled f) (numbered i ps))
numbered_reverse f i j [] h = refl
numbered_reverse f i j (p ∷ ps) h =
    let here : f (i + 0) + 0 + 1 ≡ j + length (p ∷ ps) = h 0 (omega arith) in
    let z : i + 0 ≡ i = omega arith in
    let there : f i + 0 + 1 ≡ j + length (p ∷ ps) = subst (λ k. f k + 0 + 1 ≡ j + length (p ∷ ps)) z here in
    let e : j + length (reverse ps) ≡ f i = rw length-reverse (omega (arith, there)) in
    ap (numbered j) (reverse-cons p ps) ∙ numbered_append j (reverse ps) (p ∷ []) ∙ ap (λ k. numbered j (reverse ps) ++ (vertex k p ∷ [])) e
    ∙ ap (λ l. l ++ (vertex (f i) p ∷ [])) (numbered_reverse f (i + 1) j ps (λ k l.
    let y : i + (k + 1) ≡ i + 1 + k = omega arith in
    let g : f (i + (k + 1)) + (k + 1) + 1 ≡ j + length (p ∷ ps) = h (k + 1) (omega arith) in
    let g' : f (i + 1 + k) + (k + 1) + 1 ≡ j + length (p ∷ ps) = subst (λ m. f m + (k + 1) + 1 ≡ j + length (p ∷ ps)) y g in
    omega arith)) ∙ sym (reverse-cons (vertex (f i) p) (map (relabelled f) (numbered (i + 1) ps)))

map_all_but_last_of : {X Y : Type 0} (f : X → Y) (x : X) (xs : List X) → map f (all_but_last_of x xs) ≡ all_but_last_of (f x) (map f xs)
map_all_but_last_of f x [] = refl
map_all_but_last_of f x (y ∷ ys) = ap (λ l. f x ∷ l) (map_all_but_last_of f y ys)

between_is : (ps : List Point) → between (numbered 0 ps) ≡ interior ps
between_is ps = (grind (arith, map_all_but_last_of)) ∙ ap interior (numbered_points 0 ps)

pub reduced_reverse : DirectionLaw
unfolding reduced
reduced_reverse t ps h = ap (λ m. map (λ v. v.point) (eliminate m t (numbered 0 (reverse ps)))) (length-reverse ps)
    ∙ ap (λ l. map (λ v. v.point) (eliminate (length ps) t l)) (numbered_reverse (flipped (length ps)) 0 0 ps (flipped_at (length ps)))
    ∙ ap (map (λ v. v.point)) (eliminate_reverse (length ps) t (map (relabelled (flipped (length ps))) (numbered 0 ps)))
    ∙ ap (λ l. map (λ v. v.point) (reverse l)) (eliminate_relabelled (flipped (length ps)) (flipped_one (length ps)) (length ps) t (numbered 0 ps) (subst (λ l. AreDistinct l) (sym (between_is ps)) h))
    ∙ map_reverse (λ v. v.point) (map (relabelled (flipped (length ps))) (remaining t ps))
    ∙ ap reverse (map_points (flipped (length ps)) (remaining t ps))

-- ---- the indexes

map_indexes : (f : ℕ → ℕ) (vs : List Vertex) → map (λ v. v.index) (map (relabelled f) vs) ≡ map f (map (λ v. v.index) vs)
map_indexes f [] = refl
map_indexes f (v ∷ vs) = ap (λ l. f v.index ∷ l) (map_indexes f vs)

numbered_within : (i n : ℕ) (ps : List Point) → i + length ps ≤ n → AllByRecursion (λ k. k < n) (map (λ v. v.index) (numbered i ps))
numbered_within i n [] h = tt
numbered_within i n (p ∷ ps) h = (omega (arith, h), numbered_within (i + 1) n ps (omega (arith, h)))

-- each index that stays is one of the line
pub reduce_within : (t : ℕ) (ps : List Point) → AllByRecursion (λ k. k < length ps) (reduce t ps)
unfolding reduce
reduce_within t ps = sub_all (λ k. k < length ps) (sub_map (λ v. v.index) (eliminate_sub (length ps) t (numbered 0 ps)))
    (numbered_within 0 (length ps) ps (omega arith))

flipped_within : (n i : ℕ) → i < n → flipped n i ≡ n - 1 - i
flipped_within n i h = grind (arith, nat_tests)

map_flipped : (n : ℕ) (is : List ℕ) → AllByRecursion (λ i. i < n) is → map (flipped n) is ≡ map (λ i. n - 1 - i) is
map_flipped n is h = search (all_parts, all_map, all_of_map, all_two, all_weaker, map_agree, flipped_within)

reduce_flipped : (t : ℕ) (ps : List Point) → AreDistinct (interior ps) → reduce t (reverse ps) ≡ reverse (map (flipped (length ps)) (reduce t ps))
unfolding reduce
reduce_flipped t ps h = ap (λ m. map (λ v. v.index) (eliminate m t (numbered 0 (reverse ps)))) (length-reverse ps)
    ∙ ap (λ l. map (λ v. v.index) (eliminate (length ps) t l)) (numbered_reverse (flipped (length ps)) 0 0 ps (flipped_at (length ps)))
    ∙ ap (map (λ v. v.index)) (eliminate_reverse (length ps) t (map (relabelled (flipped (length ps))) (numbered 0 ps)))
    ∙ ap (λ l. map (λ v. v.index) (reverse l)) (eliminate_relabelled (flipped (length ps)) (flipped_one (length ps)) (length ps) t (numbered 0 ps) (subst (λ l. AreDistinct l) (sym (between_is ps)) h))
    ∙ map_reverse (λ v. v.index) (map (relabelled (flipped (length ps))) (remaining t ps))
    ∙ ap reverse (map_indexes (flipped (length ps)) (remaining t ps))

pub reduce_reverse : IndexDirectionLaw
reduce_reverse t ps h = reduce_flipped t ps h ∙ ap reverse (map_flipped (length ps) (reduce t ps) (reduce_within t ps))
