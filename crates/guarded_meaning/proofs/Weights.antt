-- What stays at a threshold under a guard are the ends, what never goes, and what has a weight that isn't under it.
use Rattle.std.proofs.Common.{◌≡◌, ℕ, zero, suc, ◌+◌, ◌<◌, ◌≤◌, max, Bool, true, false, not, ◌&&◌, ◌==◌, nat_lt, List, [], ◌∷◌, length, map, Option, Some, None, ◌⊎◌, inl, inr, refl, ap, sym, ◌∙◌, if◌then◌else◌, arith}
use Rattle.guarded_meaning.proofs.Names.{and_parts, and_from, and_left, and_right, cases_lt, both_ways, ltb-true, lt-ltb, le-ltb, false_from_ne_true, nat_tests, filter_agree, filter, joined, Vertex, numbered, is_kept_at, ArcCorner, Place, place_at, is_place_of, without_at, left_by, Guard, goes_before, goes, next_corner, next_arcs, eliminate_arcs, KeptByWeight, weight_from, weight, passing}
use Rattle.elimination_meaning.proofs.Weights.{filter_both, filter_all, over_right, over_test, under_test}
use Rattle.guarded_meaning.proofs.First.{next_law, no_next_law, next_is, none_is_next}

-- ---- those that pass

passing_both : (p q r : Place → Bool) → ((x : Place) → r x ≡ (if q x then p x else false)) → (k : ℕ) (arcs : List (List Vertex)) → passing p k (passing q k arcs) ≡ passing r k arcs
passing_both p q r f k [] = refl
passing_both p q r f k (vs ∷ arcs) = ap (λ ws. ws ∷ passing p (suc k) (passing q (suc k) arcs)) (filter_both (λ v. p (place_at k v)) (λ v. q (place_at k v)) (λ v. r (place_at k v)) (λ v. f (place_at k v)) vs)
    ∙ ap (λ more. filter (λ v. r (place_at k v)) vs ∷ more) (passing_both p q r f (suc k) arcs)

passing_all : (r : Place → Bool) → ((x : Place) → r x ≡ true) → (k : ℕ) (arcs : List (List Vertex)) → passing r k arcs ≡ arcs
passing_all r f k [] = refl
passing_all r f k (vs ∷ arcs) = ap (λ ws. ws ∷ passing r (suc k) arcs) (filter_all (λ v. r (place_at k v)) (λ v. f (place_at k v)) vs) ∙ ap (λ more. vs ∷ more) (passing_all r f (suc k) arcs)

-- ---- without a corner

-- no place of this index in the arc of this number
abbrev other : ℕ → ℕ → Place → Bool
other k i x = not ((x.arc == k) && (x.vertex.index == i))

-- arcs of greater numbers are whole
past : (k i j : ℕ) (arcs : List (List Vertex)) → k < j → passing (other k i) j arcs ≡ arcs
past k i j [] h = refl
past k i j (vs ∷ arcs) h =
    ap (λ ws. ws ∷ passing (other k i) (suc j) arcs) (filter_all (λ v. other k i (place_at j v)) (λ v. grind (arith, nat_tests)) vs) ∙ ap (λ more. vs ∷ more) (past k i (suc j) arcs (omega (arith, h)))

without_passing : (j k i : ℕ) (arcs : List (List Vertex)) → without_at k i arcs ≡ passing (other (j + k) i) j arcs
without_passing j k i [] = refl
without_passing j zero i (vs ∷ arcs) =
    ap (λ ws. ws ∷ arcs) (filter_agree (λ v. not (v.index == i)) (λ v. other (j + 0) i (place_at j v)) (λ v. grind (arith, nat_tests)) vs)
    ∙ ap (λ more. filter (λ v. other (j + 0) i (place_at j v)) vs ∷ more) (sym (past (j + 0) i (suc j) arcs (omega arith)))
without_passing j (suc k) i (vs ∷ arcs) =
    let more : suc j + k ≡ j + suc k = omega arith in
    ap (λ rest. vs ∷ rest) (without_passing (suc j) k i arcs ∙ ap (λ n. passing (other n i) (suc j) arcs) more)
    ∙ ap (λ ws. ws ∷ passing (other (j + suc k) i) (suc j) arcs) (sym (filter_all (λ v. other (j + suc k) i (place_at j v)) (λ v. grind (arith, nat_tests)) vs))

pub left_passing : (arcs : List (List Vertex)) (c : ArcCorner) → left_by arcs c ≡ passing (λ x. not (is_place_of c x)) 0 arcs
left_passing arcs c = let e : 0 + c.arc ≡ c.arc = omega arith in without_passing 0 c.arc c.corner.index arcs ∙ ap (λ n. passing (other n c.corner.index) 0 arcs) e

-- ---- one step

abbrev weigh_on : Guard → ℕ → ℕ → List (List Vertex) → Place → Option ArcCorner → Option ℕ
weigh_on guard n level arcs x None = None
weigh_on guard n level arcs x (Some c) = if is_place_of c x then Some (max level c.corner.area) else weight_from guard n (max level c.corner.area) (left_by arcs c) x

abbrev go_on : Guard → ℕ → ℕ → List (List Vertex) → Option (List (List Vertex)) → List (List Vertex)
go_on guard n t arcs None = arcs
go_on guard n t arcs (Some left) = eliminate_arcs guard n t left

less_first : (c d : ArcCorner) → d.corner.area < c.corner.area → goes_before d c ≡ true
unfolding goes_before
less_first c d h = grind (arith, nat_tests)

module _ (guard : Guard) (t : ℕ) where
  -- from a level that isn't under the threshold on, all weights are so
  on_over : (n level : ℕ) (arcs : List (List Vertex)) (x : Place) → t ≤ level → ((k : ℕ) (left : List (List Vertex)) → t ≤ k → is_kept_at t (weight_from guard n k left x) ≡ true) →
      (o : Option ArcCorner) → is_kept_at t (weigh_on guard n level arcs x o) ≡ true
  on_over n level arcs x h ih o = grind (arith, over_test)

  all_over : (n level : ℕ) (arcs : List (List Vertex)) (x : Place) → t ≤ level → is_kept_at t (weight_from guard n level arcs x) ≡ true
  all_over zero level arcs x h = refl
  all_over (suc n) level arcs x h = on_over n level arcs x h (λ k left m. all_over n k left x m) (next_corner guard arcs)

  -- no corner passes, so none goes
  none_at : (arcs : List (List Vertex)) → next_corner guard arcs ≡ None → next_arcs guard t arcs ≡ None
  none_at arcs e = no_next_law guard t arcs (λ d k. and_right (nat_lt d.corner.area t) (guard arcs d) (none_is_next guard arcs e d k))

  -- the first that passes is under the threshold, so it goes
  first_under : (arcs : List (List Vertex)) (c : ArcCorner) → next_corner guard arcs ≡ Some c → c.corner.area < t → next_arcs guard t arcs ≡ Some (left_by arcs c)
  first_under arcs c e l =
      let n = next_is guard arcs c e in
      next_law guard t arcs c n.among (and_from (nat_lt c.corner.area t) (guard arcs c) (lt-ltb c.corner.area t l) n.passed)
      (λ d k g. n.none_before d k (and_parts (nat_lt d.corner.area t) (guard arcs d) g).1)

  -- it isn't, so none goes
  first_over : (arcs : List (List Vertex)) (c : ArcCorner) → next_corner guard arcs ≡ Some c → t ≤ c.corner.area → next_arcs guard t arcs ≡ None
  first_over arcs c e l =
      let n = next_is guard arcs c e in
      no_next_law guard t arcs (λ d k. false_from_ne_true (goes guard t arcs d) (λ g.
      let m = and_parts (nat_lt d.corner.area t) (guard arcs d) g in
      let u = ltb-true d.corner.area t m.0 in
      both_ways (goes_before d c) (n.none_before d k m.1) (less_first c d (omega (arith, u, l)))))

  module _ (n level : ℕ) (arcs : List (List Vertex)) (under : level < t)
      (ih : (k : ℕ) (left : List (List Vertex)) → k < t → eliminate_arcs guard n t left ≡ passing (λ x. is_kept_at t (weight_from guard n k left x)) 0 left) where
    out : (c : ArcCorner) (x : Place) → max level c.corner.area < t → (b : Bool) →
        is_kept_at t (if b then Some (max level c.corner.area) else weight_from guard n (max level c.corner.area) (left_by arcs c) x)
        ≡ (if not b then is_kept_at t (weight_from guard n (max level c.corner.area) (left_by arcs c) x) else false)
    out c x k true = under_test (max level c.corner.area) t k
    out c x k false = refl

    stays : (c : ArcCorner) (x : Place) → t ≤ c.corner.area → (b : Bool) →
        is_kept_at t (if b then Some (max level c.corner.area) else weight_from guard n (max level c.corner.area) (left_by arcs c) x) ≡ true
    stays c x k true = over_test (max level c.corner.area) t (over_right level c.corner.area t k)
    stays c x k false = all_over n (max level c.corner.area) (left_by arcs c) x (over_right level c.corner.area t k)

    on_under : (o : Option ArcCorner) → next_corner guard arcs ≡ o → go_on guard n t arcs (next_arcs guard t arcs) ≡ passing (λ x. is_kept_at t (weigh_on guard n level arcs x o)) 0 arcs
    on_under None e = ap (go_on guard n t arcs) (none_at arcs e) ∙ sym (passing_all (λ x. true) (λ x. refl) 0 arcs)
    on_under (Some c) e = on (cases_lt c.corner.area t)
      where
        on : (c.corner.area < t) ⊎ (t ≤ c.corner.area) → go_on guard n t arcs (next_arcs guard t arcs) ≡ passing (λ x. is_kept_at t (weigh_on guard n level arcs x (Some c))) 0 arcs
        on (inl k) =
            let l : max level c.corner.area < t = omega (arith, under, k) in
            let kept : Place → Bool = λ x. is_kept_at t (weight_from guard n (max level c.corner.area) (left_by arcs c) x) in
            ap (go_on guard n t arcs) (first_under arcs c e k) ∙ ih (max level c.corner.area) (left_by arcs c) l ∙ ap (passing kept 0) (left_passing arcs c)
            ∙ passing_both kept (λ x. not (is_place_of c x)) (λ x. is_kept_at t (weigh_on guard n level arcs x (Some c))) (λ x. out c x l (is_place_of c x)) 0 arcs
        on (inr k) = ap (go_on guard n t arcs) (first_over arcs c e k) ∙ sym (passing_all (λ x. is_kept_at t (weigh_on guard n level arcs x (Some c))) (λ x. stays c x k (is_place_of c x)) 0 arcs)

  eliminate_weighed : (n level : ℕ) (arcs : List (List Vertex)) → level < t → eliminate_arcs guard n t arcs ≡ passing (λ x. is_kept_at t (weight_from guard n level arcs x)) 0 arcs
  eliminate_weighed zero level arcs h = sym (passing_all (λ x. true) (λ x. refl) 0 arcs)
  eliminate_weighed (suc n) level arcs h = on_under n level arcs h (λ k left m. eliminate_weighed n k left m) (next_corner guard arcs) refl

-- ---- from the first on

pub kept_at_zero : (o : Option ℕ) → is_kept_at 0 o ≡ true
kept_at_zero o = grind arith

none_under_zero : (guard : Guard) (n : ℕ) (arcs : List (List Vertex)) → eliminate_arcs guard n 0 arcs ≡ arcs
none_under_zero guard zero arcs = refl
none_under_zero guard (suc n) arcs = ap (go_on guard n 0 arcs) (no_next_law guard 0 arcs (λ d k. and_left (nat_lt d.corner.area 0) (guard arcs d) (le-ltb d.corner.area 0 (omega arith))))

pub kept_by_weight : KeptByWeight
kept_by_weight guard zero arcs = none_under_zero guard (length (joined arcs)) (map (numbered 0) arcs)
    ∙ sym (passing_all (λ x. is_kept_at 0 (weight guard arcs x)) (λ x. kept_at_zero (weight guard arcs x)) 0 (map (numbered 0) arcs))
kept_by_weight guard (suc t) arcs = eliminate_weighed guard (suc t) (length (joined arcs)) 0 (map (numbered 0) arcs) (omega arith)
