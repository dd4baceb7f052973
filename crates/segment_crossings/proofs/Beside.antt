-- Segments that don't meet badly, since a parallel of a line lies between them.
use Rattle.std.proofs.Common.{◌≡◌, true, ℤ, pos, negsuc, ◌-ℤ◌, ◌*ℤ◌, ◌<ℤ◌, ◌≤ℤ◌, ◌⊎◌, inl, inr, Bool, false, ap, ◌∙◌, arith}
use Rattle.std.proofs.lemmas.Int.{ints}
use Rattle.std.proofs.lemmas.Bool.{or_left}
use Rattle.geometry.specs.Areas.{cross}
use Rattle.geometry.specs.Points.{Point}
use Rattle.geometry.proofs.Areas.{sub_times_sub}
use Rattle.guarded_meaning.specs.Segments.{Segment, is_on, touches, meets_badly}
use Rattle.guarded_meaning.specs.Triangles.{in_triangle}
use Rattle.guarded_meaning.proofs.Crosses.{cross_is, four_turns}
use Rattle.guarded_meaning.proofs.Pasch.{swapped}
use Rattle.guarded_meaning.proofs.Sides.{side_law}
use Rattle.guarded_meaning.proofs.Signs.{below_or}
use Rattle.guarded_meaning.proofs.Step.{Parted, line_turned, on_turned, others_turned, touches_says}
use Rattle.segment_crossings.specs.Lines.{no_point}
use Rattle.segment_crossings.proofs.Apart.{line_opposed, never, never_weighed, opposed, weights}

on_triangle : (c b d q : Point) → is_on c d q ≡ true → in_triangle c b d q ≡ true
unfolding in_triangle
on_triangle c b d q h = or_left (is_on c d q) _ h

module _ (e f : Point) where
  -- how far a position lies to the left of the line
  abbrev pub far : Point → ℤ
  far p = cross e f p

  -- from a position as far as the line goes from its first end to its second
  abbrev moved : Point → Point
  moved p = record { x = p.x -ℤ (e.x -ℤ f.x); y = p.y -ℤ (e.y -ℤ f.y) }

  parallel_is : (p q : Point) → cross p (moved p) q ≡ (f.x -ℤ e.x) *ℤ (q.y -ℤ p.y) -ℤ (q.x -ℤ p.x) *ℤ (f.y -ℤ e.y)
  unfolding cross
  parallel_is p q = ap (λ z. z *ℤ (q.y -ℤ p.y) -ℤ (q.x -ℤ p.x) *ℤ (p.y -ℤ (e.y -ℤ f.y) -ℤ p.y)) across_by ∙ ap (λ z. (f.x -ℤ e.x) *ℤ (q.y -ℤ p.y) -ℤ (q.x -ℤ p.x) *ℤ z) up_by
    where
      across_by : p.x -ℤ (e.x -ℤ f.x) -ℤ p.x ≡ f.x -ℤ e.x
      across_by = omega (arith, ints)

      up_by : p.y -ℤ (e.y -ℤ f.y) -ℤ p.y ≡ f.y -ℤ e.y
      up_by = omega (arith, ints)

  -- a position lies as far to the left of the parallel through another as the two differ
  by_parallel : (p q : Point) → cross p (moved p) q ≡ far q -ℤ far p
  by_parallel p q = omega (arith, ints, parallel_is p q, sub_times_sub f.x e.x q.y p.y, sub_times_sub q.x p.x f.y e.y, cross_is e f p, cross_is e f q)

  -- what lies on a segment lies no nearer than the end that is the nearer one
  nearer : (c d q : Point) → is_on c d q ≡ true → (far c ≤ℤ far d) → (far c ≤ℤ far q)
  nearer c d q h k = let m = (side_law c (moved c) d q (on_triangle c (moved c) d q h)).left (omega (arith, ints, k, by_parallel c d)) in omega (arith, ints, m.0, by_parallel c q)

  pub low : (a b q : Point) → touches a b q ≡ true → (k : ℤ) → (k ≤ℤ far a) → (k ≤ℤ far b) → (k ≤ℤ far q)
  low a b q h k m n = on (below_or (far b) (far a))
    where
      is : is_on a b q ≡ true
      is = (touches_says a b q h).0

      on : ((far b <ℤ far a) ⊎ (far a ≤ℤ far b)) → (k ≤ℤ far q)
      on (inl i) = omega (arith, ints, n, nearer b a q (on_turned a b q is) (omega (arith, ints, i)))
      on (inr i) = omega (arith, ints, m, nearer a b q is i)

  -- of a segment that crosses another one end doesn't lie beyond both ends of this, and the other end no nearer
  uncrossed : (a b c d : Point) → Parted a b c d → Parted c d a b → (far a <ℤ far d) → (far b <ℤ far d) → (far d ≤ℤ far c) → ⊥
  uncrossed a b c d p q ha hb hc = never_weighed (cross d b c) (cross d c a) (cross d a b) (cross a b c) (cross d (moved d) a) (cross d (moved d) b) (cross d (moved d) c)
      (four_turns d (moved d) a b c) (weights a b c d) (line_opposed a b c d q) (opposed a b c d p)
      (omega (arith, ints, ha, by_parallel d a)) (omega (arith, ints, hb, by_parallel d b)) (omega (arith, ints, hc, by_parallel d c))

pub high : (e f a b q : Point) → touches a b q ≡ true → (k : ℤ) → (far e f a <ℤ k) → (far e f b <ℤ k) → (far e f q <ℤ k)
high e f a b q h k m n = omega (arith, ints, swapped e f q, low f e a b q h (pos 1 -ℤ k) (omega (arith, ints, m, swapped e f a)) (omega (arith, ints, n, swapped e f b)))

-- the ends of one segment lie before the parallel, and those of the other don't
module _ (e f : Point) (k : ℤ) (s t : Segment) (sf : far e f s.from <ℤ k) (st : far e f s.to <ℤ k) (tf : k ≤ℤ far e f t.from) (tt' : k ≤ℤ far e f t.to) where
  no_same : ((s.from ≡ t.from) × (s.to ≡ t.to)) ⊎ ((s.from ≡ t.to) × (s.to ≡ t.from)) → ⊥
  no_same (inl i) = let x = ap (far e f) i.0 in omega (arith, ints, x, sf, tf)
  no_same (inr i) = let x = ap (far e f) i.0 in omega (arith, ints, x, sf, tt')

  no_cross : Parted s.from s.to t.from t.to → Parted t.from t.to s.from s.to → ⊥
  no_cross p q = on (below_or (far e f t.from) (far e f t.to))
    where
      on : ((far e f t.from <ℤ far e f t.to) ⊎ (far e f t.to ≤ℤ far e f t.from)) → ⊥
      on (inl i) = uncrossed e f s.from s.to t.to t.from (others_turned s.from s.to t.from t.to p) (line_turned t.from t.to s.from s.to q) (omega (arith, ints, sf, tf)) (omega (arith, ints, st, tf)) (omega (arith, ints, i))
      on (inr i) = uncrossed e f s.from s.to t.from t.to p q (omega (arith, ints, sf, tt')) (omega (arith, ints, st, tt')) i

  no_touch : (touches s.from s.to t.from ≡ true) ⊎ (touches s.from s.to t.to ≡ true) → ⊥
  no_touch (inl i) = omega (arith, ints, tf, high e f s.from s.to t.from i k sf st)
  no_touch (inr i) = omega (arith, ints, tt', high e f s.from s.to t.to i k sf st)

  no_touch_by : (touches t.from t.to s.from ≡ true) ⊎ (touches t.from t.to s.to ≡ true) → ⊥
  no_touch_by (inl i) = omega (arith, ints, sf, low e f t.from t.to s.from i k tf tt')
  no_touch_by (inr i) = omega (arith, ints, st, low e f t.from t.to s.to i k tf tt')

  pub beside_never : meets_badly s t ≡ true → ⊥
  beside_never = never s t no_same no_cross no_touch no_touch_by

-- ---- the four ways are lines, too

-- how far a position lies along a way: by the first coordinate or the second, and to where it grows or back
unfoldable pub along : Bool → Bool → Point → ℤ
along true false p = p.x
along true true p = pos 0 -ℤ p.x
along false false p = p.y
along false true p = pos 0 -ℤ p.y

abbrev pub line_of : Bool → Bool → Point
line_of true false = record { x = pos 0; y = negsuc 0 }
line_of true true = record { x = pos 0; y = pos 1 }
line_of false false = record { x = pos 1; y = pos 0 }
line_of false true = record { x = negsuc 0; y = pos 0 }

pub seen : (x b : Bool) (p : Point) → cross no_point (line_of x b) p ≡ along x b p
unfolding along
seen true false p = omega (arith, ints, cross_is no_point (line_of true false) p)
seen true true p = omega (arith, ints, cross_is no_point (line_of true true) p)
seen false false p = omega (arith, ints, cross_is no_point (line_of false false) p)
seen false true p = omega (arith, ints, cross_is no_point (line_of false true) p)

pub way_never : (x b : Bool) (k : ℤ) (s t : Segment) → (along x b s.from <ℤ k) → (along x b s.to <ℤ k) → (k ≤ℤ along x b t.from) → (k ≤ℤ along x b t.to) → meets_badly s t ≡ true → ⊥
way_never x b k s t sf st tf tt' = beside_never no_point (line_of x b) k s t (omega (arith, ints, sf, seen x b s.from)) (omega (arith, ints, st, seen x b s.to)) (omega (arith, ints, tf, seen x b t.from)) (omega (arith, ints, tt', seen x b t.to))
