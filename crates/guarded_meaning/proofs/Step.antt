-- One corner goes: what the segment in its place meets badly, one of the two before it met badly.
use Rattle.std.proofs.Common.{◌≡◌, Bool, true, false, ◌&&◌, ◌||◌, pos, int_le, ◌-ℤ◌, ◌⊎◌, inl, inr, refl, ap, sym, ◌∙◌, arith}
use Rattle.guarded_meaning.proofs.Names.{and_parts, and_from, or_cases, or_left, or_right, both_ways, Decides-int_eq, ints, same_is, same_self, cross, Point, same, StepLaw, has_length, Segment, segment, is_flat, is_between, is_on, is_end, touches, separates, crosses, is_touched, same_ends, meets_badly, in_triangle, is_clear}
use Rattle.guarded_meaning.proofs.Crosses.{cross_is}
use Rattle.guarded_meaning.proofs.Tests.{has_passes, one_of, from_one}
pub use Rattle.guarded_meaning.proofs.Pasch.{Parted}
use Rattle.guarded_meaning.proofs.Pasch.{swapped, crosses_passes, Meets, pasch_left}

-- ---- the line through the first two separates the others

parts_says : (a b c d : Point) → separates a b c d ≡ true → Parted a b c d
unfolding separates
parts_says a b c d h = grind (arith, ints)

pub others_turned : (a b c d : Point) → Parted a b c d → Parted a b d c
others_turned a b c d (inl h) = inr (h.1, h.0)
others_turned a b c d (inr h) = inl (h.1, h.0)

pub line_turned : (a b c d : Point) → Parted a b c d → Parted b a c d
line_turned a b c d (inl h) = inr (omega (arith, ints, h.0, swapped a b c), omega (arith, ints, h.1, swapped a b d))
line_turned a b c d (inr h) = inl (omega (arith, ints, h.0, swapped a b c), omega (arith, ints, h.1, swapped a b d))

pub crosses_says : (a b c d : Point) → crosses (segment a b) (segment c d) ≡ true → Parted a b c d × Parted c d a b
unfolding crosses
crosses_says a b c d h = let m = and_parts (separates a b c d) (separates c d a b) h in (parts_says a b c d m.0, parts_says c d a b m.1)

-- ---- a segment the other way around

crosses_turned : (a b c d : Point) → crosses (segment a b) (segment c d) ≡ true → crosses (segment a b) (segment d c) ≡ true
crosses_turned a b c d h =
    let m = crosses_says a b c d h in
    crosses_passes a b d c (others_turned a b c d m.0) (line_turned c d a b m.1)

or_turned : (a b : Bool) → (a || b) ≡ true → (b || a) ≡ true
or_turned true b h = or_right b true refl
or_turned false b h = or_left b false h

pub on_turned : (a b q : Point) → is_on a b q ≡ true → is_on b a q ≡ true
unfolding is_on
on_turned a b q h =
    let m = and_parts (is_flat a b q) (is_between a.x b.x q.x && is_between a.y b.y q.y) h in
    let k = and_parts (is_between a.x b.x q.x) (is_between a.y b.y q.y) m.1 in
    let e : cross a b q ≡ pos 0 = (Decides-int_eq (cross a b q) (pos 0)).0 m.0 in
    rw (
      (Decides-int_eq (cross b a q) (pos 0)).1 (omega (arith, ints, e, swapped a b q)),
      or_turned (int_le a.x q.x && int_le q.x b.x) (int_le b.x q.x && int_le q.x a.x) k.0,
      or_turned (int_le a.y q.y && int_le q.y b.y) (int_le b.y q.y && int_le q.y a.y) k.1,
    ) refl

pub touches_says : (a b q : Point) → touches a b q ≡ true → (is_on a b q ≡ true) × (is_end a b q ≡ false)
unfolding touches
touches_says a b q h = grind arith

touches_turned : (a b q : Point) → touches a b q ≡ true → touches b a q ≡ true
unfolding touches
touches_turned a b q h = grind (arith, on_turned a b q)

-- ---- a proper crossing of the new segment

meets_turned : (a p c u v : Point) → Meets a p c v u → Meets a p c u v
meets_turned a p c u v (inl h) = inl (crosses_turned a p v u h)
meets_turned a p c u v (inr (inl h)) = inr (inl (crosses_turned p c v u h))
meets_turned a p c u v (inr (inr h)) = inr (inr (touches_turned v u p h))

-- how far the ends of each of two segments are apart across the other
across : (a c u v : Point) → cross c a v -ℤ cross c a u ≡ cross u v c -ℤ cross u v a
across a c u v = omega (arith, ints, cross_is c a v, cross_is c a u, cross_is u v c, cross_is u v a)

pasch : (a p c u v : Point) → in_triangle a p c u ≡ false → in_triangle a p c v ≡ false → Parted c a u v → Parted u v a c → Meets a p c u v
pasch a p c u v nu nv (inl h) (inl k) = pasch_left a p c u v k.0 k.1 h.0 h.1 nu nv
pasch a p c u v nu nv (inr h) (inl k) = absurd (omega (arith, ints, across a c u v, h.0, h.1, k.0, k.1))
pasch a p c u v nu nv (inl h) (inr k) = absurd (omega (arith, ints, across a c u v, h.0, h.1, k.0, k.1))
pasch a p c u v nu nv (inr h) (inr k) = meets_turned a p c u v (pasch_left a p c v u
    (omega (arith, ints, k.0, swapped u v a)) (omega (arith, ints, k.1, swapped u v c)) h.1 h.0 nv nu)

-- ---- the new segment and another one

-- an end of the new segment is on its line
at_end : (a c q : Point) → is_end a c q ≡ true → cross c a q ≡ pos 0
at_end a c q h = on (or_cases (same a q) (same c q) h)
  where
    on : (same a q ≡ true) ⊎ (same c q ≡ true) → cross c a q ≡ pos 0
    on (inl k) = ap (cross c a) (sym (same_is a q k)) ∙ omega (arith, ints, cross_is c a a)
    on (inr k) = ap (cross c a) (sym (same_is c q k)) ∙ omega (arith, ints, cross_is c a c)

-- a position that is clear and off the line of the new segment is not in the triangle
clear_off : (a p c q : Point) → is_clear a p c q ≡ true → (cross c a q ≡ pos 0 → ⊥) → in_triangle a p c q ≡ false
clear_off a p c q h n = grind (arith, at_end a c q)

-- nor does it touch the new segment
clear_apart : (a p c q : Point) → is_clear a p c q ≡ true → touches a c q ≡ true → ⊥
clear_apart a p c q h t = let m = touches_says a c q t in let k = has_passes a p c q (inl m.0) in grind arith

-- ---- what makes two segments meet badly

pub bad_says : (s t : Segment) → meets_badly s t ≡ true → (same_ends s t ≡ true) ⊎ ((crosses s t ≡ true) ⊎ ((is_touched s t ≡ true) ⊎ (is_touched t s ≡ true)))
unfolding meets_badly
bad_says s t h = one_of (same_ends s t) (crosses s t) (is_touched s t) (is_touched t s) h

bad_from : (s t : Segment) → (same_ends s t ≡ true) ⊎ ((crosses s t ≡ true) ⊎ ((is_touched s t ≡ true) ⊎ (is_touched t s ≡ true))) → meets_badly s t ≡ true
unfolding meets_badly
bad_from s t h = from_one (same_ends s t) (crosses s t) (is_touched s t) (is_touched t s) h

module _ (a p c : Point) (e : Segment) (cu : is_clear a p c e.from ≡ true) (cv : is_clear a p c e.to ≡ true) (clear_base : same_ends (segment a c) e ≡ false) where
  abbrev Before : Type 0
  Before = (meets_badly (segment a p) e ≡ true) ⊎ (meets_badly (segment p c) e ≡ true)

  off : (x y : Point) → Parted c a x y → (cross c a x ≡ pos 0 → ⊥) × (cross c a y ≡ pos 0 → ⊥)
  off x y (inl h) = ((λ n. omega (arith, ints, h.0, n)), (λ n. omega (arith, ints, h.1, n)))
  off x y (inr h) = ((λ n. omega (arith, ints, h.0, n)), (λ n. omega (arith, ints, h.1, n)))

  of_meets : Meets a p c e.from e.to → Before
  of_meets (inl h) = inl (bad_from (segment a p) e (inr (inl h)))
  of_meets (inr (inl h)) = inr (bad_from (segment p c) e (inr (inl h)))
  of_meets (inr (inr h)) = inl (bad_from (segment a p) e (inr (inr (inr (or_right (touches e.from e.to a) (touches e.from e.to p) h)))))

  of_cross : crosses (segment a c) e ≡ true → Before
  of_cross h =
      let m = crosses_says a c e.from e.to h in
      let k = line_turned a c e.from e.to m.0 in
      let o = off e.from e.to k in
      of_meets (pasch a p c e.from e.to (clear_off a p c e.from cu o.0) (clear_off a p c e.to cv o.1) k m.1)

  of_touched : (touches a c e.from ≡ true) ⊎ (touches a c e.to ≡ true) → Before
  of_touched (inl h) = absurd (clear_apart a p c e.from cu h)
  of_touched (inr h) = absurd (clear_apart a p c e.to cv h)

  of_touch : (touches e.from e.to a ≡ true) ⊎ (touches e.from e.to c ≡ true) → Before
  of_touch (inl h) = inl (bad_from (segment a p) e (inr (inr (inr (or_left (touches e.from e.to a) (touches e.from e.to p) h)))))
  of_touch (inr h) = inr (bad_from (segment p c) e (inr (inr (inr (or_right (touches e.from e.to p) (touches e.from e.to c) h)))))

  of_bad : (same_ends (segment a c) e ≡ true) ⊎ ((crosses (segment a c) e ≡ true) ⊎ ((is_touched (segment a c) e ≡ true) ⊎ (is_touched e (segment a c) ≡ true))) → Before
  of_bad (inl h) = absurd (both_ways (same_ends (segment a c) e) clear_base h)
  of_bad (inr (inl h)) = of_cross h
  of_bad (inr (inr (inl h))) = of_touched (or_cases (touches a c e.from) (touches a c e.to) h)
  of_bad (inr (inr (inr h))) = of_touch (or_cases (touches e.from e.to a) (touches e.from e.to c) h)

pub step_law : StepLaw
step_law a p c e cu cv clear_base h = of_bad a p c e cu cv clear_base (bad_says (segment a c) e h)

-- ---- two of the three positions may be one

-- the corner of a segment that has length: what it meets badly, one of the two before it that have length met badly
pub length_step : (a p c : Point) (e : Segment) → is_clear a p c e.from ≡ true → is_clear a p c e.to ≡ true → same_ends (segment a c) e ≡ false → has_length (segment a c) ≡ true →
    meets_badly (segment a c) e ≡ true → ((has_length (segment a p) ≡ true) × (meets_badly (segment a p) e ≡ true)) ⊎ ((has_length (segment p c) ≡ true) × (meets_badly (segment p c) e ≡ true))
length_step a p c e cu cv clear_base l h = grind (arith, same_is a p, same_is p c, step_law a p c e cu cv clear_base h)

-- ---- either of two segments may be named first

same_back : (p q : Point) → same p q ≡ same q p
unfolding same
same_back p q = grind (arith, Decides-int_eq)

pub bad_back : (s t : Segment) → meets_badly t s ≡ true → meets_badly s t ≡ true
unfolding meets_badly same_ends crosses
bad_back s t h = grind (arith, same_back)

-- a segment joins its own ends
pub ends_self : (s : Segment) → same_ends s s ≡ true
unfolding same_ends
ends_self s = or_left (same s.from s.from && same s.to s.to) (same s.from s.to && same s.to s.from) (and_from (same s.from s.from) (same s.to s.to) (same_self s.from) (same_self s.to))
