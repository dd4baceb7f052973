-- Segments that don't meet badly, since the ends of one lie on one side of the other, but for an end that both have.
use Rattle.std.proofs.Common.{◌≡◌, Bool, true, false, pos, ◌⊎◌, ⊎_elim, inl, inr, refl, sym, subst, arith}
use Rattle.std.proofs.lemmas.Int.{ints}
use Rattle.std.proofs.lemmas.Bool.{or_parts, both_ways}
use Rattle.geometry.specs.Areas.{cross}
use Rattle.geometry.specs.Points.{Point}
use Rattle.geometry.specs.Rings.{same}
use Rattle.geometry.proofs.Points.{same_self}
use Rattle.guarded_meaning.specs.Segments.{Segment, segment, is_on, is_end, touches, meets_badly}
use Rattle.guarded_meaning.proofs.Crosses.{cross_is}
use Rattle.guarded_meaning.proofs.Pasch.{swapped, touches_passes}
use Rattle.guarded_meaning.proofs.Sides.{flat_says}
use Rattle.guarded_meaning.proofs.Step.{Parted, on_turned, others_turned, touches_says}
use Rattle.planar_predicates.proofs.Flat.{flat_first, flat_second}
use Rattle.segment_crossings.specs.Marks.{Off}
use Rattle.segment_crossings.proofs.Apart.{never}
use Rattle.segment_crossings.proofs.Beside.{beside_never}

not_flat : (l : Bool) (a b q : Point) → Off l a b q → cross a b q ≡ pos 0 → ⊥
not_flat true a b q h e = omega (arith, ints, h, e)
not_flat false a b q h e = omega (arith, ints, h, e)

not_at : (l : Bool) (a b q : Point) → Off l a b q → (q ≡ a) ⊎ (q ≡ b) → ⊥
not_at l a b q h (inl e) = not_flat l a b q h (subst (λ (p : Point). cross a b p ≡ pos 0) (sym e) (flat_first a b))
not_at l a b q h (inr e) = not_flat l a b q h (subst (λ (p : Point). cross a b p ≡ pos 0) (sym e) (flat_second a b))

first_not_parted : (a b c d : Point) → cross a b c ≡ pos 0 → Parted a b c d → ⊥
first_not_parted a b c d e (inl p) = omega (arith, ints, e, p.0)
first_not_parted a b c d e (inr p) = omega (arith, ints, e, p.0)

flat_at : (a b q : Point) → (q ≡ a) ⊎ (q ≡ b) → cross a b q ≡ pos 0
flat_at a b q (inl e) = subst (λ (p : Point). cross a b p ≡ pos 0) (sym e) (flat_first a b)
flat_at a b q (inr e) = subst (λ (p : Point). cross a b p ≡ pos 0) (sym e) (flat_second a b)

-- an end that both have touches neither, and the line through the other end and a third position is another
not_touched : (l : Bool) (a b c d q : Point) → (c ≡ a) ⊎ (c ≡ b) → Off l a b d → (q ≡ a) ⊎ (q ≡ b) → touches c d q ≡ true → ⊥
not_touched l a b c d q e k f h = on e f
  where
    says : (is_on c d q ≡ true) × (is_end c d q ≡ false)
    says = touches_says c d q h

    -- (the end itself)
    own : c ≡ q → ⊥
    own i = both_ways (same c q) (or_parts (same c q) (same d q) says.1).0 (subst (λ (p : Point). same c p ≡ true) i (same_self c))

    flat : cross c d q ≡ pos 0
    flat = flat_says c d q says.0

    at_first : cross a b d ≡ pos 0 → ⊥
    at_first n = not_flat l a b d k n

    on : (c ≡ a) ⊎ (c ≡ b) → (q ≡ a) ⊎ (q ≡ b) → ⊥
    on (inl i) (inl j) = own (subst (λ (p : Point). c ≡ p) (sym j) i)
    on (inr i) (inr j) = own (subst (λ (p : Point). c ≡ p) (sym j) i)
    on (inl i) (inr j) = at_first (let n : cross a d b ≡ pos 0 = subst (λ (p : Point). cross p d b ≡ pos 0) i (subst (λ (p : Point). cross c d p ≡ pos 0) j flat) in omega (arith, ints, n, cross_is a d b, cross_is a b d))
    on (inr i) (inl j) = at_first (let n : cross b d a ≡ pos 0 = subst (λ (p : Point). cross p d a ≡ pos 0) i (subst (λ (p : Point). cross c d p ≡ pos 0) j flat) in omega (arith, ints, n, cross_is b d a, cross_is a b d))

-- an end of one that is off the other's line, or an end of the other, doesn't touch it
off_not_on : (l : Bool) (a b q : Point) → Off l a b q → touches a b q ≡ true → ⊥
off_not_on l a b q h t = not_flat l a b q h (flat_says a b q (touches_says a b q t).0)

end_not_on : (a b q : Point) → (q ≡ a) ⊎ (q ≡ b) → touches a b q ≡ true → ⊥
end_not_on a b q e t = on e
  where
    ends : (same a q ≡ false) × (same b q ≡ false)
    ends = or_parts (same a q) (same b q) (touches_says a b q t).1

    on : (q ≡ a) ⊎ (q ≡ b) → ⊥
    on (inl i) = both_ways (same a q) ends.0 (subst (λ (p : Point). same a p ≡ true) (sym i) (same_self a))
    on (inr i) = both_ways (same b q) ends.1 (subst (λ (p : Point). same b p ≡ true) (sym i) (same_self b))

touches_turned : (a b q : Point) → touches a b q ≡ true → touches b a q ≡ true
touches_turned a b q h = let m = touches_says a b q h in let ends = or_parts (same a q) (same b q) m.1 in touches_passes b a q (on_turned a b q m.0) ends.1 ends.0

-- both ends of a segment are off a line
pub sided_never : (l : Bool) (s t : Segment) → Off l s.from s.to t.from → Off l s.from s.to t.to → meets_badly s t ≡ true → ⊥
sided_never true s t h k = beside_never s.from s.to (pos 1) s t (omega (arith, ints, flat_first s.from s.to)) (omega (arith, ints, flat_second s.from s.to)) (omega (arith, ints, h)) (omega (arith, ints, k))
sided_never false s t h k = beside_never s.to s.from (pos 1) s t (omega (arith, ints, flat_second s.to s.from)) (omega (arith, ints, flat_first s.to s.from)) (omega (arith, ints, h, swapped s.from s.to t.from)) (omega (arith, ints, k, swapped s.from s.to t.to))

-- one is, and the other is an end of the segment along that line
module _ (l : Bool) (s : Segment) (c d : Point) (e : (c ≡ s.from) ⊎ (c ≡ s.to)) (h : Off l s.from s.to d) where
  no_touch : (touches s.from s.to c ≡ true) ⊎ (touches s.from s.to d ≡ true) → ⊥
  no_touch (inl k) = end_not_on s.from s.to c e k
  no_touch (inr k) = off_not_on l s.from s.to d h k

  no_touch_by : (touches c d s.from ≡ true) ⊎ (touches c d s.to ≡ true) → ⊥
  no_touch_by (inl k) = not_touched l s.from s.to c d s.from e h (inl refl) k
  no_touch_by (inr k) = not_touched l s.from s.to c d s.to e h (inr refl) k

  no_same : ((s.from ≡ c) × (s.to ≡ d)) ⊎ ((s.from ≡ d) × (s.to ≡ c)) → ⊥
  no_same (inl i) = not_at l s.from s.to d h (inr (sym i.1))
  no_same (inr i) = not_at l s.from s.to d h (inl (sym i.0))

  no_cross : Parted s.from s.to c d → ⊥
  no_cross p = first_not_parted s.from s.to c d (flat_at s.from s.to c e) p

  pub from_never : meets_badly s (segment c d) ≡ true → ⊥
  from_never = never s (segment c d) no_same (λ p q. no_cross p) no_touch no_touch_by

  pub to_never : meets_badly s (segment d c) ≡ true → ⊥
  to_never = never s (segment d c) (λ i. no_same (⊎_elim inr inl i)) (λ p q. no_cross (others_turned s.from s.to d c p)) (λ i. no_touch (⊎_elim inr inl i)) turned
    where
      turned : (touches d c s.from ≡ true) ⊎ (touches d c s.to ≡ true) → ⊥
      turned (inl k) = no_touch_by (inl (touches_turned d c s.from k))
      turned (inr k) = no_touch_by (inr (touches_turned d c s.to k))
