-- A triangle lies in the box round its corners.
use Rattle.std.proofs.Common.{◌≡◌, ◌≢◌, true, ◌&&◌, ℤ, pos, ◌-ℤ◌, ◌*ℤ◌, ◌+ℤ◌, ◌<ℤ◌, ◌≤ℤ◌, ◌⊎◌, inl, inr, arith}
use Rattle.guarded_meaning.proofs.Names.{and_parts, ints, cross, Point, IsInBox, BoxLaw, is_flat, is_between, is_on}
pub use Rattle.guarded_meaning.proofs.Tests.{lt_denied}
use Rattle.guarded_meaning.proofs.Crosses.{cross_parts, weights}
use Rattle.guarded_meaning.proofs.Signs.{below_or, is_nothing, at_least_over, at_least_under, at_most_over, at_most_under}
use Rattle.guarded_meaning.proofs.Tests.{Between, between_says, OneSign, Has, has_says, inner_says}

-- ---- three weights of one sign, and three numbers of one sign: the weights are nothing

module _ (j k l x y z : ℤ) (e : j *ℤ x +ℤ (k *ℤ y +ℤ l *ℤ z) ≡ pos 0) where
  all_nothing : OneSign (j *ℤ x) (k *ℤ y) (l *ℤ z) → x ≢ pos 0 → y ≢ pos 0 → z ≢ pos 0 → j +ℤ (k +ℤ l) ≡ pos 0
  all_nothing h f g i =
      let a = is_nothing j x (omega (arith, ints, e, h)) f in
      let b = is_nothing k y (omega (arith, ints, e, h)) g in
      let c = is_nothing l z (omega (arith, ints, e, h)) i in
      omega (arith, ints, a, b, c)

  over_all : OneSign j k l → (pos 0 <ℤ x) → (pos 0 <ℤ y) → (pos 0 <ℤ z) → j +ℤ (k +ℤ l) ≡ pos 0
  over_all (inl w) f g i = all_nothing (inl (at_least_over j x w.0 f, at_least_over k y w.1 g, at_least_over l z w.2 i)) (λ n. omega (arith, ints, n, f)) (λ n. omega (arith, ints, n, g)) (λ n. omega (arith, ints, n, i))
  over_all (inr w) f g i = all_nothing (inr (at_most_over j x w.0 f, at_most_over k y w.1 g, at_most_over l z w.2 i)) (λ n. omega (arith, ints, n, f)) (λ n. omega (arith, ints, n, g)) (λ n. omega (arith, ints, n, i))

  under_all : OneSign j k l → (x <ℤ pos 0) → (y <ℤ pos 0) → (z <ℤ pos 0) → j +ℤ (k +ℤ l) ≡ pos 0
  under_all (inl w) f g i = all_nothing (inr (at_least_under j x w.0 f, at_least_under k y w.1 g, at_least_under l z w.2 i)) (λ n. omega (arith, ints, n, f)) (λ n. omega (arith, ints, n, g)) (λ n. omega (arith, ints, n, i))
  under_all (inr w) f g i = all_nothing (inl (at_most_under j x w.0 f, at_most_under k y w.1 g, at_most_under l z w.2 i)) (λ n. omega (arith, ints, n, f)) (λ n. omega (arith, ints, n, g)) (λ n. omega (arith, ints, n, i))

-- ---- between the least and the greatest of three

abbrev Spans : ℤ → ℤ → ℤ → ℤ → Type 0
Spans a p c q = ((k : ℤ) → (k ≤ℤ a) → (k ≤ℤ p) → (k ≤ℤ c) → (k ≤ℤ q)) × ((k : ℤ) → (a ≤ℤ k) → (p ≤ℤ k) → (c ≤ℤ k) → (q ≤ℤ k))

spans_between : (a p c q : ℤ) → Between a c q ⊎ (Between a p q ⊎ Between p c q) → Spans a p c q
spans_between a p c q h = omega (arith, ints, h)

spans_weighed : (a p c q j k l : ℤ) → j *ℤ (a -ℤ q) +ℤ (k *ℤ (p -ℤ q) +ℤ l *ℤ (c -ℤ q)) ≡ pos 0 → OneSign j k l → (j +ℤ (k +ℤ l) ≢ pos 0) → Spans a p c q
spans_weighed a p c q j k l e w n = ((λ m ha hp hc. over m ha hp hc (below_or q m)), (λ m ha hp hc. under m ha hp hc (below_or m q)))
  where
    over : (m : ℤ) → (m ≤ℤ a) → (m ≤ℤ p) → (m ≤ℤ c) → ((q <ℤ m) ⊎ (m ≤ℤ q)) → (m ≤ℤ q)
    over m ha hp hc (inl h) = absurd (n (over_all j k l (a -ℤ q) (p -ℤ q) (c -ℤ q) e w (omega (arith, ints, ha, h)) (omega (arith, ints, hp, h)) (omega (arith, ints, hc, h))))
    over m ha hp hc (inr h) = h

    under : (m : ℤ) → (a ≤ℤ m) → (p ≤ℤ m) → (c ≤ℤ m) → ((m <ℤ q) ⊎ (q ≤ℤ m)) → (q ≤ℤ m)
    under m ha hp hc (inl h) = absurd (n (under_all j k l (a -ℤ q) (p -ℤ q) (c -ℤ q) e w (omega (arith, ints, ha, h)) (omega (arith, ints, hp, h)) (omega (arith, ints, hc, h))))
    under m ha hp hc (inr h) = h

-- ---- in the box

pub on_says : (a b q : Point) → is_on a b q ≡ true → Between a.x b.x q.x × Between a.y b.y q.y
unfolding is_on
on_says a b q h =
    let m = and_parts (is_flat a b q) (is_between a.x b.x q.x && is_between a.y b.y q.y) h in
    let k = and_parts (is_between a.x b.x q.x) (is_between a.y b.y q.y) m.1 in
    (between_says a.x b.x q.x k.0, between_says a.y b.y q.y k.1)

module _ (a p c q : Point) where
  boxed : Spans a.x p.x c.x q.x → Spans a.y p.y c.y q.y → IsInBox a p c q
  boxed x y = record { left = x.0; right = x.1; below = y.0; above = y.1 }

  in_box : Has a p c q → IsInBox a p c q
  in_box (inl h) = let s = on_says a c q h in boxed (spans_between a.x p.x c.x q.x (inl s.0)) (spans_between a.y p.y c.y q.y (inl s.1))
  in_box (inr (inl h)) = let s = on_says a p q h in boxed (spans_between a.x p.x c.x q.x (inr (inl s.0))) (spans_between a.y p.y c.y q.y (inr (inl s.1)))
  in_box (inr (inr (inl h))) = let s = on_says p c q h in boxed (spans_between a.x p.x c.x q.x (inr (inr s.0))) (spans_between a.y p.y c.y q.y (inr (inr s.1)))
  in_box (inr (inr (inr h))) =
      let w = inner_says a p c q h in
      let e = weights a p c q in
      let s : OneSign (cross p c q) (cross c a q) (cross a p q) = elim w.1 [ inl m ↦ inl (m.1, m.2, m.0) | inr m ↦ inr (m.1, m.2, m.0) ] in
      let n : cross p c q +ℤ (cross c a q +ℤ cross a p q) ≢ pos 0 = λ m. w.0 (omega (arith, ints, m, cross_parts a p c q)) in
      boxed (spans_weighed a.x p.x c.x q.x (cross p c q) (cross c a q) (cross a p q) e.0 s n) (spans_weighed a.y p.y c.y q.y (cross p c q) (cross c a q) (cross a p q) e.1 s n)

pub box_law : BoxLaw
box_law a p c q h = in_box a p c q (has_says a p c q h)
