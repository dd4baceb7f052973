-- The indexes that stay are some of those of the line, in their order, and among them its ends.
use Rattle.std.proofs.Common.{◌≡◌, ℕ, ◌+◌, ◌-◌, ◌<◌, List, [], ◌∷◌, ◌++◌, length, map, refl, ap, sym, subst, arith}
use Rattle.std.specs.List.{AllByRecursion}
use Rattle.std.proofs.lemmas.List.{length-append}
use Rattle.geometry.specs.Points.{Point}
use Rattle.elimination_meaning.specs.Elimination.{numbered, reduce}
use Rattle.elimination_meaning.specs.Laws.{IndexesRise}
use Rattle.elimination_meaning.specs.Rising.{RisesTo, RisesOver}
use Rattle.elimination_meaning.specs.Sublists.{Sublist, none, keep, skip}
use Rattle.elimination_meaning.proofs.Ends.{index_ends_stay}
use Rattle.elimination_meaning.proofs.Steps.{eliminate_sub}
use Rattle.elimination_meaning.proofs.Sublists.{sub_all, sub_map}

-- each is under all that follow it
abbrev pub AreRising : List ℕ → Type 0
AreRising [] = Unit {0}
AreRising (i ∷ is) = AllByRecursion (λ j. i < j) is × AreRising is

pub sub_rising : {is js : List ℕ} → Sublist is js → AreRising js → AreRising is
sub_rising none h = h
sub_rising (keep {x} s) h = (sub_all (λ j. x < j) s h.0, sub_rising s h.1)
sub_rising (skip s) h = sub_rising s h.1

numbered_over : (k i : ℕ) (ps : List Point) → k < i → AllByRecursion (λ j. k < j) (map (λ v. v.index) (numbered i ps))
numbered_over k i [] h = tt
numbered_over k i (p ∷ ps) h = (h, numbered_over k (i + 1) ps (omega (arith, h)))

pub numbered_rising : (i : ℕ) (ps : List Point) → AreRising (map (λ v. v.index) (numbered i ps))
numbered_rising i [] = tt
numbered_rising i (p ∷ ps) = (numbered_over i (i + 1) ps (omega arith), numbered_rising (i + 1) ps)

rises_to : (last i : ℕ) (is : List ℕ) → AreRising (i ∷ (is ++ (last ∷ []))) → RisesTo last i (is ++ (last ∷ []))
rises_to last i [] h = (h.0.0, refl)
rises_to last i (j ∷ is) h = (h.0.0, rises_to last j is h.1)

-- a line with its last position apart
record Ended (p : Point) (qs : List Point) : Type 0 where
  inner : List Point
  last : Point
  shape : p ∷ qs ≡ inner ++ (last ∷ [])

ended : (p : Point) (qs : List Point) → Ended p qs
ended p [] = record { inner = []; last = p; shape = refl }
ended p (q ∷ qs) = let e = ended q qs in record { inner = p ∷ e.inner; last = e.last; shape = ap (λ l. p ∷ l) e.shape }

reduce_rising : (t : ℕ) (ps : List Point) → AreRising (reduce t ps)
unfolding reduce
reduce_rising t ps = sub_rising (sub_map (λ v. v.index) (eliminate_sub (length ps) t (numbered 0 ps))) (numbered_rising 0 ps)

rises_between : (t : ℕ) (p q : Point) (ps : List Point) → RisesOver (length (p ∷ (ps ++ (q ∷ [])))) (reduce t (p ∷ (ps ++ (q ∷ []))))
rises_between t p q ps =
    let b = index_ends_stay t p q ps in
    let rising : AreRising (0 ∷ (b.0 ++ ((1 + length ps) ∷ []))) = subst (λ l. AreRising l) b.1 (reduce_rising t (p ∷ (ps ++ (q ∷ [])))) in
    let n : length (p ∷ (ps ++ (q ∷ []))) - 1 ≡ 1 + length ps = omega (arith, length-append ps (q ∷ [])) in
    subst (λ l. RisesOver (length (p ∷ (ps ++ (q ∷ [])))) l) (sym b.1)
    (refl, subst (λ m. RisesTo m 0 (b.0 ++ ((1 + length ps) ∷ []))) (sym n) (rises_to (1 + length ps) 0 b.0 rising))

pub indexes_rise : IndexesRise
indexes_rise t [] h = absurd (omega (arith, h))
indexes_rise t (p ∷ []) h = absurd (omega (arith, h))
indexes_rise t (p ∷ (q ∷ qs)) h = grind (arith, ended q qs, rises_between t p)
