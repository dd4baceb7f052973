-- The structure of pieces, said by how often segments occur in them.
use Rattle.std.proofs.Common.{◌≡◌, ◌+◌, ◌<◌, ◌≤◌, Bool, true, cond, List, [], ◌∷◌, ◌++◌, length, refl, sym, subst, arith, ◌⊎◌, inl, inr}
use Rattle.cutter.proofs.Names.{and_parts, sum_by-cons, count_by, same_is, Point, At, In, IsStructured, first, later, Segment, segments, segments_from, is_segment, times}
use Rattle.cutter.specs.Structure.{SharersAreAlike, SegmentsAreOnce}

-- the segment between a and b goes from the one to the other
pub segment_ends : (a b : Point) (s : Segment) → is_segment a b s ≡ true → ((a ≡ s.from) × (b ≡ s.to)) ⊎ ((a ≡ s.to) × (b ≡ s.from))
segment_ends a b s h = unfold is_segment in grind (arith, same_is, and_parts)

-- no two of the list pass
abbrev Once : {X : Type 0} → (X → Bool) → List X → Type 0
Once t [] = Unit {0}
Once {X = X} t (x ∷ xs) = ((y : X) → In y xs → t x ≡ true → t y ≡ true → ⊥) × Once t xs

count_none : {X : Type 0} (t : X → Bool) (xs : List X) → ((y : X) → In y xs → t y ≡ true → ⊥) → count_by t xs ≡ 0
count_none t [] h = refl
count_none t (x ∷ xs) h = grind (arith, sum_by-cons, count_none t xs)

count_most : {X : Type 0} (t : X → Bool) (xs : List X) → Once t xs → count_by t xs ≤ 1
count_most t [] o = omega arith
count_most t (y ∷ ys) o = subst (λ n. n ≤ 1) (sym (sum_by-cons (λ z. cond (t z) 1 0) y ys)) (on (t y) refl (count_most t ys o.1))
  where
    on : (b : Bool) → t y ≡ b → count_by t ys ≤ 1 → cond b 1 0 + count_by t ys ≤ 1
    on b e ih = grind (arith, count_none)

-- where a test passes at times, one of the list passes
pub count_some : {X : Type 0} (t : X → Bool) (xs : List X) → 0 < count_by t xs → (x : X) × In x xs × (t x ≡ true)
count_some t [] h = absurd (omega arith)
count_some {X = X} t (y ∷ ys) h = grind (arith, sum_by-cons, count_some t ys)

at_more : {l : List Point} {a b : Point} {r xs : List Point} → (p : Point) → At l a b r xs → At (l ++ (p ∷ [])) a b r (p ∷ xs)
at_more p first = later first
at_more p (later h) = later (at_more p h)

-- a segment of a list has a place in it
place_of : (s : Segment) (p : Point) (ps : List Point) → In s (segments_from p ps) → (l : List Point) × (r : List Point) × At l s.from s.to r (p ∷ ps)
place_of s p [] k = elim k [ ]
place_of s p (q ∷ ps) (inl e) = ([], ps, subst (λ z. At [] z.from z.to ps (p ∷ (q ∷ ps))) (sym e) first)
place_of s p (q ∷ ps) (inr k) = let h = place_of s q ps k in (h.0 ++ (p ∷ []), h.1, at_more p h.2)

pub place : (s : Segment) (xs : List Point) → In s (segments xs) → (l : List Point) × (r : List Point) × At l s.from s.to r xs
place s xs h = grind (arith, place_of)

-- a segment that occurs has a place, in one of the directions
occurs_at : (a b : Point) (x : List Point) → 0 < times a b (segments x) → (l : List Point) × (r : List Point) × (At l a b r x ⊎ At l b a r x)
occurs_at a b x h = grind (arith, count_some, place, segment_ends)

module _ (xs : List (List Point)) (h : IsStructured xs) where
  pub sharers : SharersAreAlike xs
  sharers x y i j a b m n = grind (arith, occurs_at)

  -- two places of a segment are one
  clash : (x : List Point) → In x xs → (a b : Point) (l : List Point) (s : Segment) (r : List Point) (l' : List Point) (t : Segment) (r' : List Point) →
      At l s.from s.to r x → At l' t.from t.to r' x → is_segment a b s ≡ true → is_segment a b t ≡ true → length l < length l' → ⊥
  clash x i a b l s r l' t r' m n u v k = grind (arith, segment_ends)

  none_later : (x : List Point) → In x xs → (a b : Point) (l0 : List Point) (s : Segment) (r0 : List Point) → At l0 s.from s.to r0 x → is_segment a b s ≡ true →
      (l : List Point) (p q : Point) (r : List Point) → At l p q r x → length l0 < length l → (t : Segment) → In t (segments_from p (q ∷ r)) → is_segment a b t ≡ true → ⊥
  none_later x k a b l0 s r0 m u l p q r n o t (inl e) v = clash x k a b l0 s r0 l (record { from = p; to = q }) r m n u (subst (λ z. is_segment a b z ≡ true) e v) o
  none_later x k a b l0 s r0 m u l p q [] n o t (inr i) v = elim i [ ]
  none_later x k a b l0 s r0 m u l p q (c ∷ r) n o t (inr i) v = none_later x k a b l0 s r0 m u (p ∷ l) q c r (later n) (omega (arith, o)) t i v

  once_from : (x : List Point) → In x xs → (a b : Point) (l : List Point) (p q : Point) (r : List Point) → At l p q r x → Once (is_segment a b) (segments_from p (q ∷ r))
  once_from x k a b l p q [] n = (λ t i u v. elim i [ ], tt)
  once_from x k a b l p q (c ∷ r) n = (λ t i u v. none_later x k a b l (record { from = p; to = q }) (c ∷ r) n u (p ∷ l) q c r (later n) (omega arith) t i v, once_from x k a b (p ∷ l) q c r (later n))

  once_in : (x : List Point) → In x xs → (a b : Point) → Once (is_segment a b) (segments x)
  once_in [] k a b = tt
  once_in (p ∷ []) k a b = tt
  once_in (p ∷ (q ∷ r)) k a b = once_from (p ∷ (q ∷ r)) k a b [] p q r first

  pub segments_once : SegmentsAreOnce xs
  segments_once x k a b = count_most (is_segment a b) (segments x) (once_in x k a b)
