-- A segment that crosses a side of a triangle and has no end in it meets one of the other sides.
use Rattle.std.proofs.Common.{◌≡◌, ◌≢◌, true, false, ℤ, pos, ◌*ℤ◌, ◌+ℤ◌, ◌<ℤ◌, ◌≤ℤ◌, ◌⊎◌, inl, inr, refl, ap, sym, ◌∙◌, arith}
use Rattle.guarded_meaning.proofs.Names.{both_ways, ints, *ℤ-zero, cross_turned, same_is, cross, Point, same, segment, is_on, touches, separates, crosses, in_triangle}
use Rattle.guarded_meaning.proofs.Crosses.{cross_round, cross_parts, four_turns}
use Rattle.guarded_meaning.proofs.Signs.{below_or, over_over, over_under, under_over, under_under, at_least_over, at_least_under, at_most_over, at_most_under, over_rest, under_rest, both_over, both_under}
use Rattle.guarded_meaning.proofs.Tests.{on_passes, OneSign, has_passes, inner_passes}

-- seen along the way back a position is on the other side
pub swapped : (u v q : Point) → cross v u q +ℤ cross u v q ≡ pos 0
swapped u v q = ap (λ z. cross v u q +ℤ z) (sym (cross_round q u v)) ∙ cross_turned v u q

-- a position that is beyond no side, and not on the last, is in the triangle
beyond_none : (a p c q : Point) → in_triangle a p c q ≡ false → OneSign (cross a p q) (cross p c q) (cross c a q) → cross c a q ≢ pos 0 → ⊥
beyond_none a p c q n s m = both_ways (in_triangle a p c q) n (has_passes a p c q (inr (inr (inr (inner_passes a p c q ((λ e. m (omega (arith, ints, e, s, cross_parts a p c q))), s))))))

left_out : (a p c q : Point) → in_triangle a p c q ≡ false → (pos 0 ≤ℤ cross a p q) → (pos 0 ≤ℤ cross p c q) → (pos 0 <ℤ cross c a q) → ⊥
left_out a p c q n h k l = beyond_none a p c q n (inl (h, k, omega (arith, ints, l))) (λ e. omega (arith, ints, e, l))

right_out : (a p c q : Point) → in_triangle a p c q ≡ false → (cross a p q ≤ℤ pos 0) → (cross p c q ≤ℤ pos 0) → (cross c a q <ℤ pos 0) → ⊥
right_out a p c q n h k l = beyond_none a p c q n (inr (h, k, omega (arith, ints, l))) (λ e. omega (arith, ints, e, l))

-- what is weighed by nothing
none_between : (j k l r s t : ℤ) → j *ℤ r +ℤ (k *ℤ s +ℤ l *ℤ t) ≡ pos 0 → s ≡ pos 0 → j *ℤ r +ℤ l *ℤ t ≡ pos 0
none_between j k l r s t e n = omega (arith, ints, e, ap (λ i. k *ℤ i) n ∙ *ℤ-zero k)

-- the weights of the corners of a triangle at a position u, against how far they are from a line through it
weighed : (u v a p c : Point) → cross p c u *ℤ cross u v a +ℤ (cross c a u *ℤ cross u v p +ℤ cross a p u *ℤ cross u v c) ≡ pos 0
weighed u v a p c = rw (cross_round u p c, cross_round u c a, cross_round u a p) at (four_turns u v a p c)

weighed_last : (u v a p c : Point) → cross a p u *ℤ cross u v c +ℤ (cross p c u *ℤ cross u v a +ℤ cross c a u *ℤ cross u v p) ≡ pos 0
weighed_last u v a p c = omega (arith, ints, weighed u v a p c)

-- the line through the first two has the others on either side
abbrev pub Parted : Point → Point → Point → Point → Type 0
Parted a b c d = ((pos 0 <ℤ cross a b c) × (cross a b d <ℤ pos 0)) ⊎ ((cross a b c <ℤ pos 0) × (pos 0 <ℤ cross a b d))

parts_passes : (a b c d : Point) → Parted a b c d → separates a b c d ≡ true
unfolding separates
parts_passes a b c d h = grind (arith, ints)

pub crosses_passes : (a b c d : Point) → Parted a b c d → Parted c d a b → crosses (segment a b) (segment c d) ≡ true
unfolding crosses
crosses_passes a b c d h k = rw (parts_passes a b c d h, parts_passes c d a b k) refl

pub touches_passes : (a b q : Point) → is_on a b q ≡ true → same a q ≡ false → same b q ≡ false → touches a b q ≡ true
unfolding touches
touches_passes a b q h k l = rw (h, k, l) refl

-- what the segment from u to v meets: a side of the triangle, or its middle corner
abbrev pub Meets : Point → Point → Point → Point → Point → Type 0
Meets a p c u v = (crosses (segment a p) (segment u v) ≡ true) ⊎ ((crosses (segment p c) (segment u v) ≡ true) ⊎ (touches u v p ≡ true))

same_fails : (p q : Point) → (p ≡ q → ⊥) → same p q ≡ false
same_fails p q n = grind (arith, same_is)

module _ (a p c u v : Point) (sa : (pos 0 <ℤ cross u v a)) (sc : (cross u v c <ℤ pos 0)) (bu : (pos 0 <ℤ cross c a u)) (bv : (cross c a v <ℤ pos 0))
    (nu : in_triangle a p c u ≡ false) (nv : in_triangle a p c v ≡ false) where
  ta : (cross v u a <ℤ pos 0)
  ta = omega (arith, ints, sa, swapped u v a)

  tc : (pos 0 <ℤ cross v u c)
  tc = omega (arith, ints, sc, swapped u v c)

  -- p is on c's side
  by_first : (cross u v p <ℤ pos 0) → ((cross a p u <ℤ pos 0) ⊎ (pos 0 ≤ℤ cross a p u)) → ((pos 0 <ℤ cross a p v) ⊎ (cross a p v ≤ℤ pos 0)) → Meets a p c u v
  by_first sp (inl gu) (inl gv) = inl (crosses_passes a p u v (inr (gu, gv)) (inl (sa, sp)))
  by_first sp (inr gu) w =
      let al : (pos 0 <ℤ cross p c u) = over_rest (cross p c u) (cross u v a) _ (weighed u v a p c) (inl (sa, omega (arith, ints, over_under (cross c a u) (cross u v p) bu sp, at_least_under (cross a p u) (cross u v c) gu sc))) in
      absurd (left_out a p c u nu gu (omega (arith, ints, al)) bu)
  by_first sp (inl gu) (inr gv) =
      let tp : (pos 0 <ℤ cross v u p) = omega (arith, ints, sp, swapped u v p) in
      let al : (cross p c v <ℤ pos 0) = under_rest (cross p c v) (cross v u a) _ (weighed v u a p c) (inr (ta, omega (arith, ints, under_over (cross c a v) (cross v u p) bv tp, at_most_over (cross a p v) (cross v u c) gv tc))) in
      absurd (right_out a p c v nv gv (omega (arith, ints, al)) bv)

  -- p is on a's side
  by_second : (pos 0 <ℤ cross u v p) → ((cross p c u <ℤ pos 0) ⊎ (pos 0 ≤ℤ cross p c u)) → ((pos 0 <ℤ cross p c v) ⊎ (cross p c v ≤ℤ pos 0)) → Meets a p c u v
  by_second sp (inl gu) (inl gv) = inr (inl (crosses_passes p c u v (inr (gu, gv)) (inl (sp, sc))))
  by_second sp (inr gu) w =
      let ga : (pos 0 <ℤ cross a p u) = over_rest (cross a p u) (cross u v c) _ (weighed_last u v a p c) (inr (sc, omega (arith, ints, at_least_over (cross p c u) (cross u v a) gu sa, over_over (cross c a u) (cross u v p) bu sp))) in
      absurd (left_out a p c u nu (omega (arith, ints, ga)) gu bu)
  by_second sp (inl gu) (inr gv) =
      let tp : (cross v u p <ℤ pos 0) = omega (arith, ints, sp, swapped u v p) in
      let ga : (cross a p v <ℤ pos 0) = under_rest (cross a p v) (cross v u c) _ (weighed_last v u a p c) (inl (tc, omega (arith, ints, at_most_under (cross p c v) (cross v u a) gv ta, under_under (cross c a v) (cross v u p) bv tp))) in
      absurd (right_out a p c v nv (omega (arith, ints, ga)) gv bv)

  -- p is on the line
  module _ (sp : cross u v p ≡ pos 0) where
    tp : cross v u p ≡ pos 0
    tp = omega (arith, ints, sp, swapped u v p)

    one : ((cross c a p <ℤ cross c a u) ⊎ (cross c a u ≤ℤ cross c a p)) → (cross c a p <ℤ cross c a u)
    one (inl h) = h
    one (inr h) =
        let m = both_over (cross p c u) (cross a p u) (cross u v a) (cross u v c) (none_between (cross p c u) (cross c a u) (cross a p u) (cross u v a) (cross u v p) (cross u v c) (weighed u v a p c) sp) sa sc
        (omega (arith, ints, h, cross_parts a p c u, cross_round c a p)) in
        absurd (left_out a p c u nu m.1 m.0 bu)

    other : ((cross c a v <ℤ cross c a p) ⊎ (cross c a p ≤ℤ cross c a v)) → (cross c a v <ℤ cross c a p)
    other (inl h) = h
    other (inr h) =
        let m = both_under (cross p c v) (cross a p v) (cross v u a) (cross v u c) (none_between (cross p c v) (cross c a v) (cross a p v) (cross v u a) (cross v u p) (cross v u c) (weighed v u a p c) tp) ta tc
        (omega (arith, ints, h, cross_parts a p c v, cross_round c a p)) in
        absurd (right_out a p c v nv m.1 m.0 bv)

    by_third : Meets a p c u v
    by_third =
        let h = one (below_or (cross c a p) (cross c a u)) in
        let k = other (below_or (cross c a v) (cross c a p)) in
        inr (inr (touches_passes u v p (on_passes u v p c a sp h k)
        (same_fails u p (λ e. let i = ap (cross c a) e in omega (arith, ints, h, i)))
        (same_fails v p (λ e. let i = ap (cross c a) e in omega (arith, ints, k, i)))))

  which : ((cross u v p <ℤ pos 0) ⊎ (pos 0 ≤ℤ cross u v p)) → ((pos 0 <ℤ cross u v p) ⊎ (cross u v p ≤ℤ pos 0)) → Meets a p c u v
  which (inl h) w = by_first h (below_or (cross a p u) (pos 0)) (below_or (pos 0) (cross a p v))
  which (inr h) (inl k) = by_second k (below_or (cross p c u) (pos 0)) (below_or (pos 0) (cross p c v))
  which (inr h) (inr k) = by_third (omega (arith, ints, h, k))

  pub pasch_left : Meets a p c u v
  pasch_left = which (below_or (cross u v p) (pos 0)) (below_or (pos 0) (cross u v p))
