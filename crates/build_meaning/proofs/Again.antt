-- Arcs that no line uses, left out again after fewer lines are left.
use Rattle.std.proofs.Common.{◌≡◌, ℕ, zero, suc, ◌+◌, Bool, true, false, cond, ◌&&◌, List, [], ◌∷◌, refl, ap, ◌∙◌, arith, ◌==◌, ℤ, ◌||◌, map, Some, sym}
use Rattle.std.proofs.lemmas.Bool.{ne_eqb}
use Rattle.build_meaning.proofs.Names.{nat_tests, keep_from, new_index_from, AllByRecursion, list_any, number_of, Contents, objects_lines_and_rings, TopoObject, is_used, renumbered, line_renumbered, trimmed, objects_pruned}
use Rattle.build_meaning.proofs.Objects.{objects_then, objects_replaced}
use Rattle.build_meaning.proofs.Trimmed.{IsUsed, AllUsed}

-- ---- left out twice

-- v is what passes u and then, by its number among those, w
abbrev pub Both : (ℕ → Bool) → (ℕ → Bool) → (ℕ → Bool) → ℕ → ℕ → Type 0
Both u w v n m = (i : ℕ) → v (n + i) ≡ (u (n + i) && w (m + new_index_from u n i))

both_here : (u w v : ℕ → Bool) (n m : ℕ) → Both u w v n m → v n ≡ (u n && w m)
both_here u w v n m h =
    ap v (let e : n ≡ n + 0 = omega arith in e) ∙ h 0 ∙ ap (λ k. u k && w (m + 0)) (let e : n + 0 ≡ n = omega arith in e) ∙ ap (λ k. u n && w k) (let e : m + 0 ≡ m = omega arith in e)

both_next : (u w v : ℕ → Bool) (n m : ℕ) (b : Bool) → u n ≡ b → Both u w v n m → Both u w v (suc n) (cond b (suc m) m)
both_next u w v n m true e h i =
    ap v (let z : suc n + i ≡ n + suc i = omega arith in z) ∙ h (suc i) ∙ ap (λ k. u k && w (m + new_index_from u n (suc i))) (let z : n + suc i ≡ suc n + i = omega arith in z)
    ∙ ap (λ k. u (suc n + i) && w k) (ap (λ b. m + cond b (suc (new_index_from u (suc n) i)) (new_index_from u (suc n) i)) e ∙ (let z : m + suc (new_index_from u (suc n) i) ≡ suc m + new_index_from u (suc n) i = omega arith in z))
both_next u w v n m false e h i =
    ap v (let z : suc n + i ≡ n + suc i = omega arith in z) ∙ h (suc i) ∙ ap (λ k. u k && w (m + new_index_from u n (suc i))) (let z : n + suc i ≡ suc n + i = omega arith in z)
    ∙ ap (λ b. u (suc n + i) && w (m + cond b (suc (new_index_from u (suc n) i)) (new_index_from u (suc n) i))) e

pub keep_twice : {X : Type 0} (u w v : ℕ → Bool) (n m : ℕ) (xs : List X) → Both u w v n m → keep_from w m (keep_from u n xs) ≡ keep_from v n xs
keep_twice u w v n m [] h = refl
keep_twice {X = X} u w v n m (x ∷ xs) h = on (u n) refl (λ k p. keep_twice u w v (suc n) k xs p)
  where
    on : (b : Bool) → u n ≡ b → ((k : ℕ) → Both u w v (suc n) k → keep_from w k (keep_from u (suc n) xs) ≡ keep_from v (suc n) xs)
        → keep_from w m (cond b (x ∷ keep_from u (suc n) xs) (keep_from u (suc n) xs)) ≡ cond (v n) (x ∷ keep_from v (suc n) xs) (keep_from v (suc n) xs)
    on true e ih = grind (arith, both_here u w v n m h, both_next u w v n m true e h)
    on false e ih = grind (arith, both_here u w v n m h, both_next u w v n m false e h)

pub new_index_twice : (u w v : ℕ → Bool) (n m i : ℕ) → Both u w v n m → new_index_from w m (new_index_from u n i) ≡ new_index_from v n i
new_index_twice u w v n m zero h = refl
new_index_twice u w v n m (suc i) h = on (u n) refl (λ k p. new_index_twice u w v (suc n) k i p)
  where
    on : (b : Bool) → u n ≡ b → ((k : ℕ) → Both u w v (suc n) k → new_index_from w k (new_index_from u (suc n) i) ≡ new_index_from v (suc n) i)
        → new_index_from w m (cond b (suc (new_index_from u (suc n) i)) (new_index_from u (suc n) i)) ≡ cond (v n) (suc (new_index_from v (suc n) i)) (new_index_from v (suc n) i)
    on true e ih = grind (arith, both_here u w v n m h, both_next u w v n m true e h)
    on false e ih = grind (arith, both_here u w v n m h, both_next u w v n m false e h)

-- two numbers that pass have different new indexes
apart_renumbering : (u : ℕ → Bool) (n i j : ℕ) → u (n + i) ≡ true → u (n + j) ≡ true → new_index_from u n i ≡ new_index_from u n j → i ≡ j
apart_renumbering u n zero zero h k e = refl
apart_renumbering u n zero (suc j) h k e = grind arith
apart_renumbering u n (suc i) zero h k e = grind arith
apart_renumbering u n (suc i) (suc j) h k e = grind (arith, apart_renumbering u (suc n) i j)

same_test : (i j k l : ℕ) → (k ≡ l → i ≡ j) → (i ≡ j → k ≡ l) → (i == j) ≡ (k == l)
same_test i j k l f g = grind (arith, nat_tests, f, g)

-- a test on an index is the test on its new index
pub test_renumbering : (u : ℕ → Bool) (i j : ℕ) → u i ≡ true → u j ≡ true → (i == j) ≡ (new_index_from u 0 i == new_index_from u 0 j)
test_renumbering u i j h k = grind (arith, same_test, apart_renumbering)

-- ---- which arcs are used

abbrev names : ℕ → List ℤ → Bool
names i refs = list_any (λ r. number_of r == i) refs

abbrev line_names : ℕ → List (Bool × List ℤ) → Bool
line_names i bs = list_any (λ b. list_any (λ r. number_of r == i) b.1) bs

module _ (u : ℕ → Bool) (i : ℕ) where
  abbrev once_more : Bool × List ℤ → Bool × List ℤ
  once_more b = (b.0, map (renumbered u) b.1)

  refs_same : u i ≡ true → (refs : List ℤ) → AllByRecursion (IsUsed u) refs → names i refs ≡ names (new_index_from u 0 i) (map (renumbered u) refs)
  unfolding number_of
  refs_same h [] k = refl
  refs_same h (r ∷ refs) k = search (arith, test_renumbering, refs_same h refs k.1)

  lines_same : u i ≡ true → (bs : List (Bool × List ℤ)) → AllByRecursion (AllUsed u) bs → line_names i bs ≡ line_names (new_index_from u 0 i) (map once_more bs)
  lines_same h [] k = refl
  lines_same h (b ∷ bs) k = grind (arith, refs_same, lines_same h bs k.1)

  one_other : u i ≡ false → (r : ℤ) → IsUsed u r → (number_of r == i) ≡ false
  one_other h r k = ne_eqb (number_of r) i (λ e. let z : true ≡ false = sym k ∙ ap u e ∙ h in cc)

  refs_other : u i ≡ false → (refs : List ℤ) → AllByRecursion (IsUsed u) refs → names i refs ≡ false
  refs_other h [] k = refl
  refs_other h (r ∷ refs) k = ap (λ b. b || names i refs) (one_other h r k.0) ∙ refs_other h refs k.1

  lines_other : u i ≡ false → (bs : List (Bool × List ℤ)) → AllByRecursion (AllUsed u) bs → line_names i bs ≡ false
  lines_other h [] k = refl
  lines_other h (b ∷ bs) k = ap (λ c. c || line_names i bs) (refs_other h b.1 k.0) ∙ lines_other h bs k.1

  used_again : (os : List (List ℕ × TopoObject)) → AllByRecursion (AllUsed u) (objects_lines_and_rings os)
      → is_used os i ≡ (u i && is_used (objects_pruned (line_renumbered u) os) (new_index_from u 0 i))
  used_again os h = grind (arith, lines_same, objects_replaced (map (renumbered u)) os, lines_other)

-- ---- left out twice is left out at once

map_twice : (u w v : ℕ → Bool) → Both u w v 0 0 → (refs : List ℤ) → map (renumbered w) (map (renumbered u) refs) ≡ map (renumbered v) refs
map_twice u w v h [] = refl
map_twice u w v h (r ∷ refs) = grind (arith, new_index_twice, map_twice u w v h refs)

pub all_hold : {A : Type 0} (X : A → Type 0) → ((a : A) → X a) → (xs : List A) → AllByRecursion X xs
all_hold X f [] = tt
all_hold X f (x ∷ xs) = (f x, all_hold X f xs)

-- a topology without the arcs that don't pass
abbrev pub left_with : (ℕ → Bool) → Contents → Contents
left_with u y = record { objects = objects_pruned (line_renumbered u) y.objects; arcs = keep_from u 0 y.arcs; transform = y.transform }

pub trimmed_again : (u : ℕ → Bool) (y : Contents) → AllByRecursion (AllUsed u) (objects_lines_and_rings y.objects) → trimmed (left_with u y) ≡ trimmed y
unfolding trimmed
trimmed_again u y h =
    let w : ℕ → Bool = is_used (objects_pruned (line_renumbered u) y.objects) in
    let v : ℕ → Bool = is_used y.objects in
    let both : Both u w v 0 0 = λ i. at_number i (let z : 0 + i ≡ i = omega arith in z) (let z : 0 + new_index_from u 0 i ≡ new_index_from u 0 i = omega arith in z) in
    ap (λ os. record { objects = os; arcs = keep_from w 0 (keep_from u 0 y.arcs); transform = y.transform })
    (objects_then (line_renumbered u) (line_renumbered w) (line_renumbered v) y.objects
    (all_hold (λ b. Some (map (renumbered w) (map (renumbered u) b.1)) ≡ Some (map (renumbered v) b.1)) (λ b. ap Some (map_twice u w v both b.1)) (objects_lines_and_rings y.objects)))
    ∙ ap (λ arcs. record { objects = objects_pruned (line_renumbered v) y.objects; arcs = arcs; transform = y.transform }) (keep_twice u w v 0 0 y.arcs both)
  where
    at_number : (i : ℕ) → 0 + i ≡ i → 0 + new_index_from u 0 i ≡ new_index_from u 0 i
        → is_used y.objects (0 + i) ≡ (u (0 + i) && is_used (objects_pruned (line_renumbered u) y.objects) (0 + new_index_from u 0 i))
    at_number i e f = grind (arith, used_again)
