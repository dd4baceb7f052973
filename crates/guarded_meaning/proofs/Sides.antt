-- What a triangle holds is beyond none of its sides.
use Rattle.std.proofs.Common.{◌≡◌, true, ◌&&◌, ℤ, pos, ◌-ℤ◌, ◌*ℤ◌, ◌+ℤ◌, ◌<ℤ◌, ◌≤ℤ◌, ◌⊎◌, inl, inr, ap, ◌∙◌, arith}
use Rattle.guarded_meaning.proofs.Names.{and_parts, Decides-int_eq, ints, *ℤ-zero, zero-*ℤ, *ℤ_comm, cross, Point, IsBeyondNone, SideLaw, is_flat, is_between, is_on}
use Rattle.guarded_meaning.proofs.Box.{on_says}
use Rattle.guarded_meaning.proofs.Crosses.{turned, cross_round, cross_parts, weights}
use Rattle.guarded_meaning.proofs.Signs.{below_or, over_over, over_under, under_over, under_under, at_least_over, at_least_under, at_most_over, at_most_under}
use Rattle.guarded_meaning.proofs.Pasch.{swapped}
use Rattle.guarded_meaning.proofs.Tests.{cross_ways, Between, OneSign, Has, has_says, inner_says}

abbrev Opposed : ℤ → ℤ → Type 0
Opposed u v = ((pos 0 <ℤ u) × (v <ℤ pos 0)) ⊎ ((u <ℤ pos 0) × (pos 0 <ℤ v))

-- two numbers on either side of nothing, or there, with weights of different signs, add up to nothing where both are nothing
none_left : (u v x z : ℤ) → u *ℤ x +ℤ v *ℤ z ≡ pos 0 → Opposed u v → ((x ≤ℤ pos 0) × (pos 0 ≤ℤ z)) ⊎ ((z ≤ℤ pos 0) × (pos 0 ≤ℤ x)) → x ≡ pos 0
none_left u v x z e h a = grind (arith, ints, over_over u x, over_under u x, under_over u x, under_under u x, at_least_over z v, at_least_under z v, at_most_over z v, at_most_under z v, *ℤ_comm v z)

-- so it is where the number is from one position to another
none_between : (u v a c q : ℤ) → u *ℤ (a -ℤ q) +ℤ v *ℤ (c -ℤ q) ≡ pos 0 → Opposed u v → Between a c q → a -ℤ q ≡ pos 0
none_between u v a c q e h (inl s) = none_left u v (a -ℤ q) (c -ℤ q) e h (inl (omega (arith, ints, s), omega (arith, ints, s)))
none_between u v a c q e h (inr s) = none_left u v (a -ℤ q) (c -ℤ q) e h (inr (omega (arith, ints, s), omega (arith, ints, s)))

turned_by_none : (bx by ax ay : ℤ) → ax ≡ pos 0 → ay ≡ pos 0 → turned ax ay bx by ≡ pos 0
turned_by_none bx by ax ay e f = omega (arith, ints, ap (λ z. z *ℤ by) e ∙ zero-*ℤ by, ap (λ z. bx *ℤ z) f ∙ *ℤ-zero bx)

without_second : (j k l x y z : ℤ) → j *ℤ x +ℤ (k *ℤ y +ℤ l *ℤ z) ≡ pos 0 → k ≡ pos 0 → j *ℤ x +ℤ l *ℤ z ≡ pos 0
without_second j k l x y z e n = omega (arith, ints, e, ap (λ i. i *ℤ y) n ∙ zero-*ℤ y)

one_sign : (j k l : ℤ) → k ≡ pos 0 → (Opposed j l → ⊥) → OneSign l j k
one_sign j k l e n = on (below_or j (pos 0)) (below_or (pos 0) j) (below_or l (pos 0)) (below_or (pos 0) l)
  where
    on : ((j <ℤ pos 0) ⊎ (pos 0 ≤ℤ j)) → ((pos 0 <ℤ j) ⊎ (j ≤ℤ pos 0)) → ((l <ℤ pos 0) ⊎ (pos 0 ≤ℤ l)) → ((pos 0 <ℤ l) ⊎ (l ≤ℤ pos 0)) → OneSign l j k
    on (inl p) q r (inl s) = absurd (n (inr (p, s)))
    on (inl p) q r (inr s) = inr (s, omega (arith, ints, p), omega (arith, ints, e))
    on (inr p) q (inr r) s = inl (r, p, omega (arith, ints, e))
    on (inr p) (inl q) (inl r) s = absurd (n (inl (q, r)))
    on (inr p) (inr q) (inl r) s = inr (omega (arith, ints, r), q, omega (arith, ints, e))

pub flat_says : (a b q : Point) → is_on a b q ≡ true → cross a b q ≡ pos 0
unfolding is_on
flat_says a b q h = (Decides-int_eq (cross a b q) (pos 0)).0 (and_parts (is_flat a b q) (is_between a.x b.x q.x && is_between a.y b.y q.y) h).0

-- on the first and the last corner's side
on_base : (a p c q : Point) → is_on a c q ≡ true → OneSign (cross a p q) (cross p c q) (cross c a q)
on_base a p c q h = one_sign (cross p c q) (cross c a q) (cross a p q) n (λ o.
    let s = on_says a c q h in
    let w = weights a p c q in
    let e = none_between (cross p c q) (cross a p q) a.x c.x q.x (without_second (cross p c q) (cross c a q) (cross a p q) (a.x -ℤ q.x) (p.x -ℤ q.x) (c.x -ℤ q.x) w.0 n) o s.0 in
    let f = none_between (cross p c q) (cross a p q) a.y c.y q.y (without_second (cross p c q) (cross c a q) (cross a p q) (a.y -ℤ q.y) (p.y -ℤ q.y) (c.y -ℤ q.y) w.1 n) o s.1 in
    let z : cross a p q ≡ pos 0 = omega (arith, ints, cross_ways q a p, cross_round q a p, turned_by_none (p.x -ℤ q.x) (p.y -ℤ q.y) (a.x -ℤ q.x) (a.y -ℤ q.y) e f) in
    omega (arith, ints, o, z))
  where
    n : cross c a q ≡ pos 0
    n = omega (arith, ints, flat_says a c q h, swapped a c q)

beyond_none : (a p c q : Point) → Has a p c q → IsBeyondNone a p c q
beyond_none a p c q (inl h) = omega (arith, ints, on_base a p c q h, cross_parts a p c q)
beyond_none a p c q (inr (inl h)) = omega (arith, ints, on_base a c p q h, swapped a c q, swapped c p q, swapped p a q, cross_parts a p c q)
beyond_none a p c q (inr (inr (inl h))) = omega (arith, ints, on_base p a c q h, swapped p a q, swapped a c q, swapped c p q, cross_parts a p c q)
beyond_none a p c q (inr (inr (inr h))) = let w = inner_says a p c q h in omega (arith, ints, w.1, cross_parts a p c q)

pub side_law : SideLaw
side_law a p c q h = beyond_none a p c q (has_says a p c q h)
