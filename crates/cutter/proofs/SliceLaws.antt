-- The slices between the cut indexes are the pieces.
use Rattle.std.proofs.Common.{◌≡◌, ◌≢◌, ℕ, suc, ◌+◌, ◌<◌, ◌≤◌, Bool, true, cond, List, [], ◌∷◌, ◌++◌, take, drop, length, append-nil, refl, ap, sym, ◌∙◌, arith, Option, None, Some}
use Rattle.cutter.proofs.Names.{drop-drop, take_more, length-take, slice_range, filter, is_before, least_of, is_least, Point, last, pieces_from, split_at, first_at, start_in, stitched, indexes, slices, IsRising, least_point, least_with}
use Rattle.std.proofs.Common.{get_or}
use Rattle.std.proofs.lemmas.List.Elements.{filter-append}

-- the first of the indexes is not before the start
FirstFrom : ℕ → List ℕ → Type 0
FirstFrom k [] = Unit {0}
FirstFrom k (j ∷ js) = k ≤ j

module _ (cut : Point → Bool) where
  indexes_from : (k m : ℕ) (ps : List Point) → k ≤ m → FirstFrom k (indexes cut m ps)
  unfolding FirstFrom
  indexes_from k m [] h = tt
  indexes_from k m (p ∷ ps) h = grind (arith, indexes_from k (m + 1) ps (omega (arith, h)))

  -- the last passes, so an index is left
  pub some_place : (m : ℕ) (p : Point) (ps : List Point) → cut (last p ps) ≡ true → indexes cut m (p ∷ ps) ≢ []
  some_place m p [] h e = let z : m ∷ [] ≡ [] = ap (λ b. cond b (m ∷ []) []) (sym h) ∙ e in cc
  some_place m p (q ∷ ps) h e = grind (arith, some_place (m + 1) q ps h)

  drop_next : (k : ℕ) (w : List Point) (p : Point) (ps : List Point) → drop k w ≡ p ∷ ps → drop (k + 1) w ≡ ps
  drop_next k w p ps e = sym (drop-drop 1 k w) ∙ ap (drop 1) e

  range_more : (w : List Point) (k j : ℕ) (p : Point) (ps : List Point) → drop k w ≡ p ∷ ps → k + 1 ≤ j → slice_range w k (j + 1) ≡ p ∷ slice_range w (k + 1) (j + 1)
  range_more w k j p ps e h = grind (arith, drop_next)

  range_two : (w : List Point) (k : ℕ) (p q : Point) (ps : List Point) → drop k w ≡ p ∷ (q ∷ ps) → slice_range w k ((k + 1) + 1) ≡ p ∷ (q ∷ [])
  range_two w k p q ps e = grind arith

  pub slices_from : (w : List Point) (k : ℕ) (p : Point) (ps : List Point) → drop k w ≡ p ∷ ps → cut (last p ps) ≡ true → slices w (k ∷ indexes cut (k + 1) ps) ≡ pieces_from cut p ps
  unfolding FirstFrom
  slices_from w k p [] e h = refl
  slices_from w k p (q ∷ ps) e h = grind (arith, drop_next, range_more, range_two, indexes_from, some_place, slices_from w (k + 1) q ps (drop_next k w p (q ∷ ps) e) h)

  -- the slices of a list whose ends pass are its pieces
  pub slices_are : (p : Point) (ps : List Point) → cut p ≡ true → cut (last p ps) ≡ true → slices (p ∷ ps) (indexes cut 0 (p ∷ ps)) ≡ split_at cut (p ∷ ps)
  slices_are p ps h k = ap (λ b. slices (p ∷ ps) (cond b (0 ∷ indexes cut 1 ps) (indexes cut 1 ps))) h ∙ slices_from (p ∷ ps) 0 p ps refl k

  -- the indexes rise
  pub indexes_rise : (n m : ℕ) (ps : List Point) → m + length ps ≤ n → IsRising n (indexes cut m ps)
  unfolding FirstFrom
  indexes_rise n m [] h = tt
  indexes_rise n m (p ∷ ps) h = grind (arith, indexes_from, indexes_rise n (m + 1) ps (omega (arith, h)))

  -- one more position
  pub indexes_more : (m : ℕ) (ps : List Point) (p : Point) → indexes cut m (ps ++ (p ∷ [])) ≡ indexes cut m ps ++ cond (cut p) ((m + length ps) ∷ []) []
  indexes_more m [] p = ap (λ k. cond (cut p) (k ∷ []) []) (omega arith)
  indexes_more m (q ∷ ps) p = grind (arith, indexes_more (m + 1) ps p)

-- the least of a list, one more
least_more_of : (q : Point) (ps : List Point) (p : Point) → Some (least_of q (ps ++ (p ∷ []))) ≡ least_with (Some (least_of q ps)) p
least_more_of q [] p = refl
least_more_of q (r ∷ ps) p = least_more_of (cond (is_before r q) r q) ps p

pub least_more : (ps : List Point) (p : Point) → least_point (ps ++ (p ∷ [])) ≡ least_with (least_point ps) p
least_more ps p = grind (arith, least_more_of)

-- one more of the positions of which the least was taken
pub least_turn : (t : Point → Bool) (ps : List Point) (i : ℕ) (d : Point) → i < length ps → least_point (filter t (take (i + 1) ps)) ≡ cond (t (get_or ps i d)) (least_with (least_point (filter t (take i ps))) (get_or ps i d)) (least_point (filter t (take i ps)))
least_turn t ps i d h = ap (λ l. least_point (filter t l)) (take_more ps i d h) ∙ ap least_point (filter-append t (take i ps) (get_or ps i d ∷ [])) ∙ on (t (get_or ps i d))
  where
    on : (b : Bool) → least_point (filter t (take i ps) ++ cond b (get_or ps i d ∷ []) []) ≡ cond b (least_with (least_point (filter t (take i ps))) (get_or ps i d)) (least_point (filter t (take i ps)))
    on b = grind (arith, least_more, append-nil)

pub indexes_turn : (t : Point → Bool) (ps : List Point) (i : ℕ) (d : Point) → i < length ps → indexes t 0 (take (i + 1) ps) ≡ indexes t 0 (take i ps) ++ cond (t (get_or ps i d)) (i ∷ []) []
indexes_turn t ps i d h = grind (arith, length-take i ps, take_more ps i d h, indexes_more t 0 (take i ps) (get_or ps i d))

-- the first two of rising indexes
below : (n i : ℕ) (is : List ℕ) → IsRising n (i ∷ is) → i < n
below n i [] h = h
below n i (j ∷ js) h = omega (arith, h.0, below n j js h.1)

pub two_indexes : (n : ℕ) (is : List ℕ) → IsRising n is → 2 ≤ length is → (get_or is 0 0 < get_or is 1 0) × (get_or is 1 0 < n) × IsRising n (drop 1 is)
two_indexes n [] h k = absurd (omega arith)
two_indexes n (i ∷ []) h k = absurd (omega arith)
two_indexes n (i ∷ (j ∷ js)) h k = (h.0, below n j js h.1, h.1)

pub no_slice : (ps : List Point) (is : List ℕ) → length is < 2 → slices ps is ≡ []
no_slice ps [] k = refl
no_slice ps (i ∷ []) k = refl
no_slice ps (i ∷ (j ∷ js)) k = absurd (omega arith)

-- of pieces that, joined again, are the list, the only one is the list
pub whole_slice : (ps : List Point) (is : List ℕ) → stitched (slices ps is) ≡ ps → length is ≡ 2 → slices ps is ≡ ps ∷ []
whole_slice ps [] e n = absurd (omega arith)
whole_slice ps (i ∷ []) e n = absurd (omega arith)
whole_slice ps (i ∷ (j ∷ [])) e n = ap (λ l. l ∷ []) (sym (append-nil (slice_range ps i (j + 1))) ∙ e)
whole_slice ps (i ∷ (j ∷ (k ∷ is))) e n = absurd (omega arith)

-- two indexes make one piece, and no other number does
pub other_slices : (ps : List Point) (is : List ℕ) → length is ≢ 2 → length (slices ps is) ≢ 1
other_slices ps [] h e = absurd (omega (arith, e))
other_slices ps (i ∷ []) h e = absurd (omega (arith, e))
other_slices ps (i ∷ (j ∷ [])) h e = h refl
other_slices ps (i ∷ (j ∷ (k ∷ is))) h e = absurd (omega (arith, e))

pub least_step : (t : Point → Bool) (ps : List Point) (i : ℕ) (x : Point) (best : Option Point) → i < length ps → x ≡ get_or ps i x → best ≡ least_point (filter t (take i ps)) →
    cond (t x) (least_with best x) best ≡ least_point (filter t (take (i + 1) ps))
least_step t ps i x best h e g = grind (arith, least_turn)

pub indexes_step : (t : Point → Bool) (ps : List Point) (i : ℕ) (x : Point) (is : List ℕ) → i < length ps → x ≡ get_or ps i x → is ≡ indexes t 0 (take i ps) →
    is ++ cond (t x) (i ∷ []) [] ≡ indexes t 0 (take (i + 1) ps)
indexes_step t ps i x is h e g = grind (arith, indexes_turn)

-- no cut position
pub no_start : (cut : Point → Bool) (ps : List Point) → least_point (filter cut ps) ≡ None → length ps ≡ start_in cut ps
no_start cut ps h = none (filter cut ps) h ps
  where
    none : (fs : List Point) → least_point fs ≡ None → (qs : List Point) → length qs ≡ first_at (λ p. is_least p fs) qs
    none (f ∷ fs) e qs = cc
    none [] e [] = refl
    none [] e (q ∷ qs) = ap suc (none [] e qs)
