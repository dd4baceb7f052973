-- What a box and a mark show of their segments.
use Rattle.std.proofs.Common.{◌≡◌, true, false, ℤ, pos, ◌-ℤ◌, ◌<ℤ◌, ◌≤ℤ◌, ◌⊎◌, ⊎_elim, inl, inr, ap, sym, ◌∙◌, arith}
use Rattle.std.proofs.lemmas.Bool.{false_from_ne_true, or_cases}
use Rattle.std.proofs.lemmas.Int.{by_lt_z, clamps, ints}
use Rattle.std.specs.Int.{int_max}
use Rattle.geometry.specs.Points.{Point}
use Rattle.geometry.specs.Rings.{same}
use Rattle.geometry.proofs.Points.{same_is}
use Rattle.guarded_meaning.specs.Segments.{Segment, is_end, meets_badly}
use Rattle.planar_predicates.specs.declared.extent.Extent.{Extent}
use Rattle.planar_predicates.specs.Extents.{HoldsPoint, LiesIn}
use Rattle.planar_predicates.proofs.Boxes.{holds_in}
use Rattle.segment_crossings.specs.Marks.{IsIn, IsOff, Joins, RunsInto}
use Rattle.segment_crossings.proofs.Beside.{along, way_never}
use Rattle.segment_crossings.proofs.Sided.{from_never, sided_never, to_never}

-- ---- boxes without a position in common

module _ (e f : Extent) (s t : Segment) (se : IsIn e s) (tf : IsIn f t) (bad : meets_badly s t ≡ true) where
  at_most : (j k : ℤ) → ((k <ℤ j) → ⊥) → (j ≤ℤ k)
  at_most j k n = by_lt_z k j (λ h. absurd (n h)) (λ h. h)

  left : (f.low_x ≤ℤ e.high_x)
  unfolding along
  left = at_most f.low_x e.high_x (λ h. way_never true false f.low_x s t (omega (arith, ints, h, se.from.held.high_x)) (omega (arith, ints, h, se.to.held.high_x)) tf.from.held.low_x tf.to.held.low_x bad)

  right : (e.low_x ≤ℤ f.high_x)
  unfolding along
  right = at_most e.low_x f.high_x (λ h. way_never true true (pos 0 -ℤ f.high_x) s t (omega (arith, ints, h, se.from.held.low_x)) (omega (arith, ints, h, se.to.held.low_x)) (omega (arith, ints, tf.from.held.high_x)) (omega (arith, ints, tf.to.held.high_x)) bad)

  under : (f.low_y ≤ℤ e.high_y)
  unfolding along
  under = at_most f.low_y e.high_y (λ h. way_never false false f.low_y s t (omega (arith, ints, h, se.from.held.high_y)) (omega (arith, ints, h, se.to.held.high_y)) tf.from.held.low_y tf.to.held.low_y bad)

  over : (e.low_y ≤ℤ f.high_y)
  unfolding along
  over = at_most e.low_y f.high_y (λ h. way_never false true (pos 0 -ℤ f.high_y) s t (omega (arith, ints, h, se.from.held.low_y)) (omega (arith, ints, h, se.to.held.low_y)) (omega (arith, ints, tf.from.held.high_y)) (omega (arith, ints, tf.to.held.high_y)) bad)

  pub extents_apart : ((p : Point) → HoldsPoint e p → HoldsPoint f p → ⊥) → ⊥
  extents_apart h = h (record { x = int_max e.low_x f.low_x; y = int_max e.low_y f.low_y })
      (record { low_x = omega (arith, ints, clamps); low_y = omega (arith, ints, clamps); high_x = omega (arith, ints, clamps, left, se.from.held.low_x, se.from.held.high_x); high_y = omega (arith, ints, clamps, under, se.from.held.low_y, se.from.held.high_y) })
      (record { low_x = omega (arith, ints, clamps); low_y = omega (arith, ints, clamps); high_x = omega (arith, ints, clamps, right, tf.from.held.low_x, tf.from.held.high_x); high_y = omega (arith, ints, clamps, over, tf.from.held.low_y, tf.from.held.high_y) })

-- ---- wider boxes

pub wider : (e f : Extent) (t : Segment) → LiesIn e f → IsIn e t → IsIn f t
wider e f t l h = record {
  from = record { position = h.from.position; held = holds_in e f t.from l h.from.held };
  to = record { position = h.to.position; held = holds_in e f t.to l h.to.held };
}

-- ---- boxes on one side

module _ (e : Extent) (s t : Segment) where
  pub off_never : IsIn e t → IsOff e s → meets_badly s t ≡ false
  off_never i o = false_from_ne_true _ (sided_never o.side s t (o.off t.from i.from) (o.off t.to i.to))

  pub off_at_never : (p : Point) → is_end s.from s.to p ≡ true → RunsInto p e t → IsOff e s → meets_badly s t ≡ false
  off_at_never p h r o = on r.ends
    where
      here : (p ≡ s.from) ⊎ (p ≡ s.to)
      here = ⊎_elim (λ i. inl (sym (same_is s.from p i))) (λ i. inr (sym (same_is s.to p i))) (or_cases (same s.from p) (same s.to p) h)

      on : Joins p r.other t → meets_badly s t ≡ false
      on (inl i) = ap (meets_badly s) i ∙ false_from_ne_true _ (from_never o.side s p r.other here (o.off r.other r.held))
      on (inr i) = ap (meets_badly s) i ∙ false_from_ne_true _ (to_never o.side s p r.other here (o.off r.other r.held))
