-- Segments that don't meet badly, since they lie apart.
use Rattle.std.proofs.Common.{◌≡◌, true, ◌&&◌, ℤ, pos, ◌-ℤ◌, ◌*ℤ◌, ◌+ℤ◌, ◌<ℤ◌, ◌≤ℤ◌, ◌⊎◌, inl, inr, arith}
use Rattle.std.proofs.lemmas.Int.{ints}
use Rattle.std.proofs.lemmas.Bool.{and_parts, or_cases}
use Rattle.geometry.specs.Areas.{cross}
use Rattle.geometry.specs.Points.{Point}
use Rattle.geometry.specs.Rings.{same}
use Rattle.geometry.proofs.Points.{same_is}
use Rattle.guarded_meaning.specs.Segments.{Segment, touches, crosses, is_touched, same_ends, meets_badly}
use Rattle.guarded_meaning.proofs.Crosses.{cross_is}
use Rattle.guarded_meaning.proofs.Pasch.{swapped}
use Rattle.guarded_meaning.proofs.Signs.{over_under, under_under}
use Rattle.guarded_meaning.proofs.Step.{Parted, crosses_says, bad_says}

-- ---- what four positions have to do with one another

-- on either side of zero
abbrev pub Opposed : ℤ → ℤ → Type 0
Opposed x y = ((pos 0 <ℤ x) × (y <ℤ pos 0)) ⊎ ((x <ℤ pos 0) × (pos 0 <ℤ y))

-- two that are weighed over zero lie before one that is weighed by nothing, and another is not before it
pub never_weighed : (j k l m r s t : ℤ) → j *ℤ r +ℤ (k *ℤ s +ℤ l *ℤ t) ≡ pos 0 → j +ℤ k ≡ m -ℤ l → Opposed j (pos 0 -ℤ k) → Opposed m l → (r <ℤ pos 0) → (s <ℤ pos 0) → (pos 0 ≤ℤ t) → ⊥
never_weighed j k l m r s t e f (inl h) (inl g) hr hs ht = omega (arith, ints, e, over_under j r h.0 hr, over_under k s (omega (arith, ints, h.1)) hs, under_weak l t g.1 ht)
  where
    under_weak : (x y : ℤ) → (x <ℤ pos 0) → (pos 0 ≤ℤ y) → ((x *ℤ y) ≤ℤ pos 0)
    under_weak x y p q = grind (arith, ints)
never_weighed j k l m r s t e f (inr h) (inr g) hr hs ht = omega (arith, ints, e, under_under j r h.0 hr, under_under k s (omega (arith, ints, h.1)) hs, over_weak l t g.1 ht)
  where
    over_weak : (x y : ℤ) → (pos 0 <ℤ x) → (pos 0 ≤ℤ y) → (pos 0 ≤ℤ (x *ℤ y))
    over_weak x y p q = grind (arith, ints)
never_weighed j k l m r s t e f (inl h) (inr g) hr hs ht = omega (arith, ints, f, h.0, h.1, g.0, g.1)
never_weighed j k l m r s t e f (inr h) (inl g) hr hs ht = omega (arith, ints, f, h.0, h.1, g.0, g.1)

module _ (a b c d : Point) where
  pub weights : cross d b c +ℤ cross d c a ≡ cross a b c -ℤ cross d a b
  weights = omega (arith, ints, cross_is d b c, cross_is d c a, cross_is a b c, cross_is d a b)

  round : cross d a b ≡ cross a b d
  round = omega (arith, ints, cross_is d a b, cross_is a b d)

  pub line_opposed : Parted c d a b → Opposed (cross d b c) (pos 0 -ℤ cross d c a)
  line_opposed (inl h) = inr (omega (arith, ints, h.1, cross_is d b c, cross_is c d b), omega (arith, ints, h.0, swapped c d a))
  line_opposed (inr h) = inl (omega (arith, ints, h.1, cross_is d b c, cross_is c d b), omega (arith, ints, h.0, swapped c d a))

  pub opposed : Parted a b c d → Opposed (cross a b c) (cross d a b)
  opposed (inl h) = inl (h.0, omega (arith, ints, h.1, round))
  opposed (inr h) = inr (h.0, omega (arith, ints, h.1, round))

-- ---- two segments that neither are one, nor cross, nor touch

same_says : (s t : Segment) → same_ends s t ≡ true → ((s.from ≡ t.from) × (s.to ≡ t.to)) ⊎ ((s.from ≡ t.to) × (s.to ≡ t.from))
unfolding same_ends
same_says s t h = on (or_cases (same s.from t.from && same s.to t.to) (same s.from t.to && same s.to t.from) h)
  where
    on : ((same s.from t.from && same s.to t.to) ≡ true) ⊎ ((same s.from t.to && same s.to t.from) ≡ true) → ((s.from ≡ t.from) × (s.to ≡ t.to)) ⊎ ((s.from ≡ t.to) × (s.to ≡ t.from))
    on (inl k) = let m = and_parts (same s.from t.from) (same s.to t.to) k in inl (same_is s.from t.from m.0, same_is s.to t.to m.1)
    on (inr k) = let m = and_parts (same s.from t.to) (same s.to t.from) k in inr (same_is s.from t.to m.0, same_is s.to t.from m.1)

pub never : (s t : Segment) → (((s.from ≡ t.from) × (s.to ≡ t.to)) ⊎ ((s.from ≡ t.to) × (s.to ≡ t.from)) → ⊥) → (Parted s.from s.to t.from t.to → Parted t.from t.to s.from s.to → ⊥)
    → ((touches s.from s.to t.from ≡ true) ⊎ (touches s.from s.to t.to ≡ true) → ⊥) → ((touches t.from t.to s.from ≡ true) ⊎ (touches t.from t.to s.to ≡ true) → ⊥) → meets_badly s t ≡ true → ⊥
never s t no_same no_cross no_touch no_touch_by b = on (bad_says s t b)
  where
    on : (same_ends s t ≡ true) ⊎ ((crosses s t ≡ true) ⊎ ((is_touched s t ≡ true) ⊎ (is_touched t s ≡ true))) → ⊥
    on (inl k) = no_same (same_says s t k)
    on (inr (inl k)) = let m = crosses_says s.from s.to t.from t.to k in no_cross m.0 m.1
    on (inr (inr (inl k))) = no_touch (or_cases (touches s.from s.to t.from) (touches s.from s.to t.to) k)
    on (inr (inr (inr k))) = no_touch_by (or_cases (touches t.from t.to s.from) (touches t.from t.to s.to) k)
