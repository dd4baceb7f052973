-- What stays at a threshold are the ends, and the positions whose weight isn't under it.
use Rattle.std.proofs.Common.{◌≡◌, ℕ, zero, suc, ◌+◌, ◌<◌, ◌≤◌, max, Bool, true, false, not, List, [], ◌∷◌, Option, Some, None, length, map, refl, ap, sym, ◌∙◌, arith, if◌then◌else◌, ◌==◌, nat_lt, ◌⊎◌, inl, inr}
use Rattle.std.specs.List.{filter, range_with_len}
use Rattle.std.proofs.lemmas.Bool.Decides.{nat_tests}
use Rattle.std.proofs.lemmas.Bool.{cases_lt}
use Rattle.geometry.specs.Points.{Point}
use Rattle.elimination_meaning.specs.Elimination.{Vertex, Corner, corners, least, without, without_under, eliminate, numbered, reduce}
use Rattle.elimination_meaning.specs.Laws.{KeptByWeight}
use Rattle.elimination_meaning.specs.Weights.{weight_from, weight, is_kept_at}
use Rattle.elimination_meaning.proofs.Steps.{eliminate_zero}
use Rattle.elimination_meaning.proofs.Turned.{go_on}

-- ---- filters

pub filter_all : {X : Type 0} (r : X → Bool) → ((x : X) → r x ≡ true) → (xs : List X) → filter r xs ≡ xs
filter_all r f [] = refl
filter_all r f (x ∷ xs) = ap (λ b. if b then x ∷ filter r xs else filter r xs) (f x) ∙ ap (λ l. x ∷ l) (filter_all r f xs)

pub filter_both : {X : Type 0} (p q r : X → Bool) → ((x : X) → r x ≡ (if q x then p x else false)) → (xs : List X) → filter p (filter q xs) ≡ filter r xs
filter_both p q r f [] = refl
filter_both p q r f (x ∷ xs) = grind (arith, filter_both p q r f xs)

-- ---- one step

abbrev pub weigh_on : ℕ → ℕ → List Vertex → ℕ → Option Corner → Option ℕ
weigh_on n level vs i None = None
weigh_on n level vs i (Some c) = if c.index == i then Some (max level c.area) else weight_from n (max level c.area) (without c.index vs) i

pub over_test : (w t : ℕ) → t ≤ w → not (nat_lt w t) ≡ true
over_test w t h = grind (arith, nat_tests)

pub over_right : (w a t : ℕ) → t ≤ a → t ≤ max w a
over_right w a t h = omega (arith, h)

pub under_test : (w t : ℕ) → w < t → not (nat_lt w t) ≡ false
under_test w t h = grind (arith, nat_tests)

-- from a level that isn't under the threshold on, all weights are so
on_over : (n t level i : ℕ) (vs : List Vertex) → t ≤ level → ((k : ℕ) (ws : List Vertex) → t ≤ k → is_kept_at t (weight_from n k ws i) ≡ true) →
    (o : Option Corner) → is_kept_at t (weigh_on n level vs i o) ≡ true
on_over n t level i vs h ih o = grind (arith, over_test)

all_over : (n t level i : ℕ) (vs : List Vertex) → t ≤ level → is_kept_at t (weight_from n level vs i) ≡ true
all_over zero t level i vs h = refl
all_over (suc n) t level i vs h = on_over n t level i vs h (λ k ws m. all_over n t k i ws m) (least (corners vs))

index_test : (i j : ℕ) → (i == j) ≡ (j == i)
index_test i j = grind (arith, nat_tests)

on_under : (n t level : ℕ) (vs : List Vertex) → level < t →
    ((k : ℕ) (ws : List Vertex) → k < t → eliminate n t ws ≡ filter (λ v. is_kept_at t (weight_from n k ws v.index)) ws) →
    (o : Option Corner) → go_on n t vs (without_under t vs o) ≡ filter (λ v. is_kept_at t (weigh_on n level vs v.index o)) vs
on_under n t level vs h ih None = sym (filter_all (λ v. true) (λ v. refl) vs)
on_under n t level vs h ih (Some c) = on (cases_lt c.area t)
  where
    lt_test : (a : ℕ) → a < t → nat_lt a t ≡ true
    lt_test a k = grind (arith, nat_tests)

    ge_test : (a : ℕ) → t ≤ a → nat_lt a t ≡ false
    ge_test a k = grind (arith, nat_tests)

    out : (v : Vertex) → max level c.area < t → (b : Bool) →
        is_kept_at t (if b then Some (max level c.area) else weight_from n (max level c.area) (without c.index vs) v.index)
        ≡ (if not b then is_kept_at t (weight_from n (max level c.area) (without c.index vs) v.index) else false)
    out v k b = grind (arith, under_test)

    stays : (v : Vertex) → t ≤ c.area → (b : Bool) →
        is_kept_at t (if b then Some (max level c.area) else weight_from n (max level c.area) (without c.index vs) v.index) ≡ true
    stays v k b = grind (arith, over_test, over_right, all_over)

    on : (c.area < t) ⊎ (t ≤ c.area) → go_on n t vs (if nat_lt c.area t then Some (without c.index vs) else None)
        ≡ filter (λ v. is_kept_at t (if c.index == v.index then Some (max level c.area) else weight_from n (max level c.area) (without c.index vs) v.index)) vs
    on (inl k) =
        let l : max level c.area < t = omega (arith, h, k) in
        ap (λ b. go_on n t vs (if b then Some (without c.index vs) else None)) (lt_test c.area k)
        ∙ ih (max level c.area) (without c.index vs) l
        ∙ filter_both (λ v. is_kept_at t (weight_from n (max level c.area) (without c.index vs) v.index)) (λ v. not (v.index == c.index))
        (λ v. is_kept_at t (if c.index == v.index then Some (max level c.area) else weight_from n (max level c.area) (without c.index vs) v.index))
        (λ v. out v l (c.index == v.index) ∙ ap (λ b. if not b then is_kept_at t (weight_from n (max level c.area) (without c.index vs) v.index) else false) (index_test c.index v.index)) vs
    on (inr k) = grind (arith, ge_test, filter_all, stays)

eliminate_weighed : (n t level : ℕ) (vs : List Vertex) → level < t → eliminate n t vs ≡ filter (λ v. is_kept_at t (weight_from n level vs v.index)) vs
eliminate_weighed zero t level vs h = sym (filter_all (λ v. true) (λ v. refl) vs)
eliminate_weighed (suc n) t level vs h = on_under n t level vs h (λ k ws m. eliminate_weighed n t k ws m) (least (corners vs))

-- ---- indexes

indexes_filtered : (k : ℕ → Bool) (vs : List Vertex) → map (λ v. v.index) (filter (λ v. k v.index) vs) ≡ filter k (map (λ v. v.index) vs)
indexes_filtered k [] = refl
indexes_filtered k (v ∷ vs) = grind (arith, indexes_filtered k vs)

numbered_indexes : (i : ℕ) (ps : List Point) → map (λ v. v.index) (numbered i ps) ≡ range_with_len i (length ps)
numbered_indexes i [] = refl
numbered_indexes i (p ∷ ps) = ap (λ l. i ∷ l) (numbered_indexes (i + 1) ps)

kept_under : (t : ℕ) (ps : List Point) → eliminate (length ps) t (numbered 0 ps) ≡ filter (λ v. is_kept_at t (weight ps v.index)) (numbered 0 ps) →
    reduce t ps ≡ filter (λ i. is_kept_at t (weight ps i)) (range_with_len 0 (length ps))
unfolding reduce
kept_under t ps e = ap (map (λ v. v.index)) e ∙ indexes_filtered (λ i. is_kept_at t (weight ps i)) (numbered 0 ps)
    ∙ ap (filter (λ i. is_kept_at t (weight ps i))) (numbered_indexes 0 ps)

pub kept_by_weight : KeptByWeight
kept_by_weight zero ps = kept_under 0 ps (eliminate_zero (length ps) (numbered 0 ps) ∙ sym (filter_all (λ v. is_kept_at 0
    (weight ps v.index)) (λ v. (grind arith)) (numbered 0 ps)))
kept_by_weight (suc t) ps = kept_under (suc t) ps (eliminate_weighed (length ps) (suc t) 0 (numbered 0 ps) (omega arith))
