-- Rings that are cut at their start alone.
use Rattle.std.proofs.Common.{◌≡◌, ℕ, zero, suc, ◌+◌, ◌-◌, ◌<◌, ◌≤◌, Bool, true, false, cond, List, [], ◌∷◌, ◌++◌, take, drop, get_or, length, min, ap, ◌∙◌, sym, subst, arith}
use Rattle.std.proofs.lemmas.List.{take-append-drop}
use Rattle.std.proofs.lemmas.List.Elements.{filter-append}
use Rattle.std.proofs.lemmas.List.Filters.{length-filter_more}
use Rattle.cutter.proofs.Names.{length-append, filter, Point, Stroke, last, from_start, indexes, start_in, turned, EndsPass}
use Rattle.cutter.specs.Slices.{started}

pub at_most_one : (b : Bool) → cond b 1 0 ≤ 1
at_most_one true = omega arith
at_most_one false = omega arith

module _ (cut : Point → Bool) where
  -- how many of them pass
  abbrev passing : List Point → ℕ
  passing ps = length (filter cut ps)

  passing_append : (ps qs : List Point) → passing (ps ++ qs) ≡ passing ps + passing qs
  passing_append ps qs = ap length (filter-append cut ps qs) ∙ length-append (filter cut ps) (filter cut qs)

  passing_split : (k : ℕ) (ps : List Point) → passing (take k ps) + passing (drop k ps) ≡ passing ps
  passing_split k ps = sym (passing_append (take k ps) (drop k ps)) ∙ ap passing (take-append-drop k ps)

  -- one position more
  passing_next : (k : ℕ) (ps : List Point) → passing (take (suc k) ps) ≤ passing (take k ps) + 1
  passing_next k [] = grind arith
  passing_next zero (p ∷ ps) = grind arith
  passing_next (suc k) (p ∷ ps) = grind (arith, passing_next k ps)

  passing_behind : (p : Point) (ps : List Point) → passing ps ≤ passing (p ∷ ps)
  passing_behind p ps = grind arith

  -- so many pass, and one more that passes or doesn't
  pub count_step : (ps : List Point) (i : ℕ) (x : Point) (n : ℕ) → i < length ps → x ≡ get_or ps i x → n ≡ passing (take i ps) → n + cond (cut x) 1 0 ≡ passing (take (i + 1) ps)
  count_step ps i x n h e g = ap (λ m. m + cond (cut x) 1 0) g ∙ ap (λ y. passing (take i ps) + cond (cut y) 1 0) e ∙ sym (length-filter_more cut ps i x h)

  -- a ring that is turned has one more at most, its start twice
  passing_turned : (k : ℕ) (p : Point) (ps : List Point) → passing (turned k (p ∷ ps)) ≤ passing (p ∷ ps) + 1
  passing_turned k p ps =
      let n : k + 1 ≡ suc k = omega arith in
      let whole : passing (turned k (p ∷ ps)) ≡ passing (drop k (p ∷ ps)) + passing (take k ps) = passing_append (drop k (p ∷ ps)) (drop 1 (take (k + 1) (p ∷ ps))) ∙ ap (λ m. passing (drop k (p ∷ ps)) + passing (drop 1 (take m (p ∷ ps)))) n in
      omega (arith, whole, passing_split k (p ∷ ps), passing_next k (p ∷ ps), passing_behind p (take k ps))

  -- the last passes, so one does
  some_pass : (p : Point) (ps : List Point) → cut (last p ps) ≡ true → 1 ≤ passing (p ∷ ps)
  some_pass p [] h = grind arith
  some_pass p (q ∷ ps) h = grind (arith, some_pass q ps h)

  -- where no other passes, its index is the only one
  last_alone : (m : ℕ) (p : Point) (ps : List Point) → cut (last p ps) ≡ true → passing (p ∷ ps) ≤ 1 → indexes cut m (p ∷ ps) ≡ (m + length ps) ∷ []
  last_alone m p [] h k = grind arith
  last_alone m p (q ∷ ps) h k = grind (arith, some_pass q ps h, last_alone (m + 1) q ps h)

  -- where none passes between the ends, their indexes are all
  pub ends_alone : (ps : List Point) → 2 ≤ length ps → EndsPass cut ps → passing ps ≤ 2 → indexes cut 0 ps ≡ 0 ∷ ((length ps - 1) ∷ [])
  ends_alone [] n h k = absurd (omega arith)
  ends_alone (p ∷ []) n h k = absurd (omega arith)
  ends_alone (p ∷ (q ∷ ps)) n h k = grind (arith, h.0, h.1, last_alone 1 q ps h.1)

  -- a ring from its start is cut at its ends alone where no other cut position was seen on the way round
  start_alone : (k : ℕ) (ps : List Point) → 2 ≤ length (turned k ps) → EndsPass cut (turned k ps) → passing ps ≤ 2 - min k 1 → indexes cut 0 (turned k ps) ≡ 0 ∷ ((length (turned k ps) - 1) ∷ [])
  start_alone zero [] n h e = absurd (omega (arith, n))
  start_alone (suc k) [] n h e =
      let none : List Point = [] in
      let up : suc k + 1 ≡ suc (suc k) = omega arith in
      let empty : length (turned (suc k) none) ≡ 0 = ap (λ j. length (drop (suc k) none ++ drop 1 (take j none))) up in
      absurd (omega (arith, empty, n))
  start_alone zero (p ∷ ps) n h e = ends_alone (turned zero (p ∷ ps)) n h (omega (arith, passing_append (p ∷ ps) [], e))
  start_alone (suc k) (p ∷ ps) n h e = ends_alone (turned (suc k) (p ∷ ps)) n h (omega (arith, passing_turned (suc k) p ps, e))

  pub alone : (s t : Stroke) (k n : ℕ) → t ≡ started cut s → s.closed ≡ true → k ≡ start_in cut s.positions → n ≡ passing s.positions → n ≤ 2 - min k 1 → EndsPass cut (from_start cut s) → 2 ≤ length t.positions →
      indexes cut 0 t.positions ≡ 0 ∷ ((length t.positions - 1) ∷ [])
  alone s t k n et closed ek en few ends long =
      let start = start_in cut s.positions in
      let ring : from_start cut s ≡ turned start s.positions = ap (λ b. cond b (turned start s.positions) s.positions) closed in
      let whole : t.positions ≡ turned start s.positions = ap (λ x. x.positions) et ∙ ring in
      let e : passing s.positions ≤ 2 - min start 1 = subst (λ m. m ≤ 2 - min start 1) en (subst (λ m. n ≤ 2 - min m 1) ek few) in
      subst (λ l. indexes cut 0 l ≡ 0 ∷ ((length l - 1) ∷ [])) (sym whole)
      (start_alone start s.positions (subst (λ l. 2 ≤ length l) whole long) (subst (EndsPass cut) ring ends) e)
