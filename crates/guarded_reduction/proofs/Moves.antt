-- A ring has one position more than its arcs move on, with equal neighbours as one.
use Rattle.std.proofs.Common.{◌≡◌, ℕ, zero, suc, ℤ, pos, negsuc, ◌+◌, ◌-◌, ◌≤◌, Bool, true, false, not, nat_lt, nat_le, List, [], ◌∷◌, ◌++◌, map, length, reverse, Option, Some, None, slice_index_or, refl, ap, sym, ◌∙◌, if◌then◌else◌, arith}
use mathlib.Core.List.{reverse_aux}
use Rattle.std.proofs.lemmas.Bool.{both_ways}
use Rattle.std.proofs.lemmas.Bool.Decides.{nat_tests}
use Rattle.std.proofs.lemmas.List.{append-nil}
use Rattle.geometry.specs.Joins.{at, or_empty, arc_at, number_of, joined_after_first, stitched, last_of, Meet}
use Rattle.geometry.specs.Points.{Point}
use Rattle.geometry.specs.Rings.{same}
use Rattle.geometry.proofs.Points.{same_is, same_self}
use Rattle.junctions.specs.Cleaning.{clean, clean_from}
use Rattle.guarded_meaning.specs.Guards.{is_long}
use Rattle.guarded_meaning.specs.Lists.{last_after}
use Rattle.guarded_reduction.specs.Moves.{steps, moves_from, moves, lost, ring_moves, stays}

-- ---- positions of a line

clean_moves_from : (p : Point) (ps : List Point) → length (clean_from p ps) ≡ suc (moves_from p ps)
clean_moves_from p [] = refl
clean_moves_from p (q ∷ qs) = on (same p q) (clean_moves_from q qs)
  where
    on : (b : Bool) → length (clean_from q qs) ≡ suc (moves_from q qs) → length (if b then clean_from q qs else p ∷ clean_from q qs) ≡ suc ((if b then 0 else 1) + moves_from q qs)
    on true h = omega (arith, h)
    on false h = omega (arith, h)

-- ---- lines one after another

moves_append : (p : Point) (ps qs : List Point) → moves_from p (ps ++ qs) ≡ moves_from p ps + moves_from (last_after p ps) qs
moves_append p [] qs = omega arith
moves_append p (q ∷ ps) qs = let h = moves_append q ps qs in omega (arith, h)

pub last_is : {X : Type 0} (x : X) (xs : List X) → last_of (x ∷ xs) ≡ Some (last_after x xs)
last_is x [] = refl
last_is x (y ∷ xs) = last_is y xs

-- of all these lines
abbrev sum_moves : List (List Point) → ℕ
sum_moves [] = 0
sum_moves (ps ∷ pss) = moves ps + sum_moves pss

no_some : {X : Type 0} (x : X) → Some x ≡ None → ⊥
no_some {X = X} x e = both_ways false refl (ap has e)
  where
    has : Option X → Bool
    has None = true
    has (Some y) = false

some_same : {X : Type 0} (x y : X) → Some x ≡ Some y → x ≡ y
some_same x y e = ap (λ o. elim o [ None ↦ x | Some z ↦ z ]) e

meet_moves : (p : Point) (ps : List Point) (pss : List (List Point)) → Meet ((p ∷ ps) ∷ pss) → moves_from p (ps ++ joined_after_first pss) ≡ moves_from p ps + sum_moves pss
meet_moves p ps [] m = ap (moves_from p) (append-nil ps) ∙ (omega arith)
meet_moves p ps ([] ∷ pss) m = absurd (no_some (last_after p ps) (sym (last_is p ps) ∙ m.0))
meet_moves p ps ((q ∷ qs) ∷ pss) m =
    let e : last_after p ps ≡ q = some_same (last_after p ps) q (sym (last_is p ps) ∙ m.0) in
    let h = moves_append p ps (qs ++ joined_after_first pss) in
    let k = ap (λ r. moves_from r (qs ++ joined_after_first pss)) e in
    let l = meet_moves q qs pss m.1 in
    omega (arith, h, k, l)

-- lines that meet where the first has none have none
no_moves : (pss : List (List Point)) → Meet ([] ∷ pss) → (joined_after_first pss ≡ []) × (sum_moves pss ≡ 0)
no_moves [] m = (refl, refl)
no_moves ([] ∷ pss) m = let h = no_moves pss m.1 in (h.0, omega (arith, h.1))
no_moves ((q ∷ qs) ∷ pss) m = absurd (no_some q (sym m.0))

long_by_moves : (pss : List (List Point)) → Meet pss → not (nat_lt (length (clean (stitched pss))) 4) ≡ nat_le 3 (sum_moves pss)
long_by_moves [] m = refl
long_by_moves ([] ∷ pss) m = let h = no_moves pss m in let z : 0 + sum_moves pss ≡ 0 = omega (arith, h.1) in ap (λ ps. not (nat_lt (length (clean ps)) 4)) h.0 ∙ sym (ap (λ n. nat_le 3 n) z)
long_by_moves ((p ∷ ps) ∷ pss) m = four (length (clean_from p (ps ++ joined_after_first pss))) (moves_from p ps + sum_moves pss) (clean_moves_from p (ps ++ joined_after_first pss) ∙ ap suc (meet_moves p ps pss m))
  where
    four : (m n : ℕ) → m ≡ suc n → not (nat_lt m 4) ≡ nat_le 3 n
    four m n e = grind (arith, nat_tests)

-- ---- a line backwards

abbrev one_unless : Bool → ℕ
one_unless b = if b then 0 else 1

steps_back : (p q : Point) → steps p q ≡ steps q p
steps_back p q = on (same p q) (same q p) refl refl
  where
    on : (a b : Bool) → same p q ≡ a → same q p ≡ b → one_unless a ≡ one_unless b
    on true true e f = refl
    on false false e f = refl
    on true false e f = absurd (both_ways false refl (sym f ∙ ap (λ r. same r p) (sym (same_is p q e)) ∙ same_self p))
    on false true e f = absurd (both_ways false refl (sym e ∙ ap (λ r. same r q) (sym (same_is q p f)) ∙ same_self q))

moves_onto : (y : Point) (xs ys : List Point) → moves (reverse_aux xs (y ∷ ys)) ≡ moves_from y xs + moves_from y ys
moves_onto y [] ys = omega arith
moves_onto y (x ∷ xs) ys = let h = moves_onto x xs (y ∷ ys) in let k = steps_back x y in omega (arith, h, k)

moves_back : (ps : List Point) → moves (reverse ps) ≡ moves ps
moves_back [] = refl
moves_back (p ∷ ps) = let h = moves_onto p ps [] in omega (arith, h)

-- ---- a ring

moves_at : (arcs : List (List Point)) (i : ℕ) → moves (or_empty (at arcs i)) ≡ slice_index_or (map moves arcs) i 0
moves_at [] i = refl
moves_at (ps ∷ arcs) zero = refl
moves_at (ps ∷ arcs) (suc i) = moves_at arcs i

moves_arc : (arcs : List (List Point)) (r : ℤ) → moves (arc_at arcs r) ≡ slice_index_or (map moves arcs) (number_of r) 0
unfolding number_of
moves_arc arcs (pos i) = moves_at arcs i
moves_arc arcs (negsuc i) = moves_back (or_empty (at arcs i)) ∙ moves_at arcs i

sum_ring : (arcs : List (List Point)) (refs : List ℤ) → sum_moves (map (arc_at arcs) refs) ≡ ring_moves (map moves arcs) refs
sum_ring arcs [] = refl
sum_ring arcs (r ∷ refs) = let h = moves_arc arcs r in let k = sum_ring arcs refs in omega (arith, h, k)

-- a ring has four positions where its arcs move on three times
pub long_is : (arcs : List (List Point)) (refs : List ℤ) → Meet (map (arc_at arcs) refs) → is_long arcs refs ≡ stays (map moves arcs) refs
unfolding stays
long_is arcs refs m = long_by_moves (map (arc_at arcs) refs) m ∙ ap (λ n. nat_le 3 n) (sum_ring arcs refs)

-- ---- a line without a position between its ends

at_most : (p q r : Point) → steps p r ≤ steps p q + steps q r
at_most p q r = on (same p q) (same q r) (same p r) refl refl refl
  where
    on : (a b c : Bool) → same p q ≡ a → same q r ≡ b → same p r ≡ c → one_unless c ≤ one_unless a + one_unless b
    on a b true e f g = omega arith
    on false b false e f g = omega arith
    on true false false e f g = omega arith
    on true true false e f g = absurd (both_ways false refl (sym g ∙ ap (λ x. same p x) (sym (same_is q r f)) ∙ e))

moves_between : (f : Point) (front back : List Point) (a p c : Point) →
    moves_from f (front ++ (a ∷ (p ∷ (c ∷ back)))) + steps a c ≡ moves_from f (front ++ (a ∷ (c ∷ back))) + (steps a p + steps p c)
moves_between f [] back a p c = omega arith
moves_between f (g ∷ front) back a p c = let h = moves_between g front back a p c in omega (arith, h)

pub moves_less : (front back : List Point) (a p c : Point) → moves (front ++ (a ∷ (c ∷ back))) ≡ moves (front ++ (a ∷ (p ∷ (c ∷ back)))) - lost a p c
moves_less [] back a p c = let h = at_most a p c in omega (arith, h)
moves_less (f ∷ front) back a p c = let h = moves_between f front back a p c in let k = at_most a p c in omega (arith, h, k)
