-- At a higher threshold the same corners go first, and then more.
use Rattle.std.proofs.Common.{◌≡◌, ℕ, zero, suc, ◌<◌, ◌≤◌, true, false, nat_lt, List, length, map, Some, ◌⊎◌, inl, inr, ap, ◌∙◌, arith}
use Rattle.guarded_meaning.proofs.Names.{and_parts, and_from, cases_lt, ltb-true, lt-ltb, nat_tests, AllByRecursion, joined, In, Vertex, numbered, ArcCorner, all_corners, HasOwnIndexes, goes_before, Guard, goes, next_arcs, eliminate_arcs, remaining_arcs, reduce_arcs, HigherKeepsFewer, EachTo, IsThinned}
use Rattle.guarded_meaning.proofs.First.{IsNext, next_law, next_says}
use Rattle.guarded_meaning.proofs.Kept.{eliminate_keeps}
use Rattle.guarded_meaning.proofs.Removal.{all_numbered_own}
use Rattle.guarded_meaning.proofs.Thinned.{each_same, each_map, IsSound, sound_step, next_less}

more_last : (c d : ArcCorner) → c.corner.area < d.corner.area → goes_before d c ≡ false
unfolding goes_before
more_last c d h = grind (arith, nat_tests)

module _ (guard : Guard) (t u : ℕ) (under : t ≤ u) where
  goes_higher : (arcs : List (List Vertex)) (c : ArcCorner) → goes guard t arcs c ≡ true → goes guard u arcs c ≡ true
  goes_higher arcs c h =
      let m = and_parts (nat_lt c.corner.area t) (guard arcs c) h in
      let l = ltb-true c.corner.area t m.0 in
      and_from (nat_lt c.corner.area u) (guard arcs c) (lt-ltb c.corner.area u (omega (arith, l, under))) m.1

  -- the next corner is the next one at the higher threshold
  next_higher : (arcs left : List (List Vertex)) → next_arcs guard t arcs ≡ Some left → next_arcs guard u arcs ≡ Some left
  next_higher arcs left h =
      let n = next_says guard t arcs left h in
      next_law guard u arcs n.0 n.1.among (goes_higher arcs n.0 n.1.passed) (λ d k g. on n.0 n.1 d k g (cases_lt d.corner.area t)) ∙ ap Some n.2
    where
      on : (c : ArcCorner) → IsNext (goes guard t) arcs c → (d : ArcCorner) → In d (all_corners 0 arcs) → goes guard u arcs d ≡ true → (d.corner.area < t) ⊎ (t ≤ d.corner.area) → goes_before d c ≡ false
      on c n d k g (inl l) = n.none_before d k (and_from (nat_lt d.corner.area t) (guard arcs d) (lt-ltb d.corner.area t l) (and_parts (nat_lt d.corner.area u) (guard arcs d) g).1)
      on c n d k g (inr l) =
          let m = ltb-true c.corner.area t (and_parts (nat_lt c.corner.area t) (guard arcs c) n.passed).0 in
          more_last c d (omega (arith, l, m))

  thinned : (n : ℕ) (arcs : List (List Vertex)) → AllByRecursion HasOwnIndexes arcs → EachTo IsThinned (eliminate_arcs guard n u arcs) arcs
  thinned n arcs own = (eliminate_keeps guard u (IsSound arcs) (sound_step guard arcs) n arcs (each_same arcs, own)).0

  eliminate_higher : (n : ℕ) (arcs : List (List Vertex)) → AllByRecursion HasOwnIndexes arcs → EachTo IsThinned (eliminate_arcs guard n u arcs) (eliminate_arcs guard n t arcs)
  eliminate_higher zero arcs own = each_same arcs
  eliminate_higher (suc n) arcs own = grind (arith, eliminate_higher n, next_higher arcs, next_less guard t arcs own, thinned (suc n) arcs own)

pub higher_keeps_fewer : HigherKeepsFewer
unfolding reduce_arcs
higher_keeps_fewer guard t u arcs under = each_map (λ v. v.index) (remaining_arcs guard u arcs) (remaining_arcs guard t arcs)
    (eliminate_higher guard t u under (length (joined arcs)) (map (numbered 0) arcs) (all_numbered_own arcs))
