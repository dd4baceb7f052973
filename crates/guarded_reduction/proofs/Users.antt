-- Which rings use which arcs, and how often arcs move on, as loops count it.
use Rattle.std.proofs.Common.{◌≡◌, ◌≢◌, ℕ, suc, ℤ, ◌+◌, ◌-◌, ◌<◌, ◌≤◌, ◌==◌, Bool, true, false, List, [], ◌∷◌, ◌++◌, length, map, replicate, take, drop, if◌then◌else◌, get_or, slice_index_or, slice_set, length-set, get_or-set_same, get_or-set_other, refl, ap, sym, ◌∙◌, subst, ◌⊎◌, inl, inr, arith}
use Rattle.std.specs.List.{Contains}
use Rattle.std.proofs.lemmas.Bool.{both_ways, cases_eq, cases_lt, or_cases, eqb-true}
use Rattle.std.proofs.lemmas.Bool.Decides.{nat_tests}
use Rattle.std.proofs.lemmas.List.{append_assoc, append-nil, get_or_default, get_or-map, get_or_past, get_or-replicate, length-drop, length-map, length-replicate, length-take-le, map-set, replicate-append-replicate}
use Rattle.std.proofs.lemmas.List.Elements.{Contains-append_cases, Contains-append_left, Contains-append_right}
use Rattle.std.proofs.lemmas.List.Folds.{list_any-append}
use Rattle.effective_area.proofs.HeapLaws.{contains_cases, contains_here}
use Rattle.owned_values.proofs.Lists.{drop_here, take_here}
use Rattle.geometry.specs.Joins.{number_of}
use Rattle.geometry.specs.Points.{Point}
use Rattle.guarded_meaning.specs.Guards.{uses}
use Rattle.guarded_reduction.specs.Moves.{AddsUser, AreUsers, moves, ring_at, steps, users_at, users_from, uses_of}

-- ---- how often a ring uses an arc

pub test_same : (n : ℕ) → (n == n) ≡ true
test_same n = grind (arith, nat_tests)

pub test_other : (m n : ℕ) → m ≢ n → (m == n) ≡ false
test_other m n h = grind (arith, nat_tests)

uses_append : (k : ℕ) (refs others : List ℤ) → uses_of k (refs ++ others) ≡ uses_of k refs + uses_of k others
uses_append k [] others = omega arith
uses_append k (r ∷ refs) others = let h = uses_append k refs others in omega (arith, h)

users_append : (k i : ℕ) (rings others : List (List ℤ)) → users_from k i (rings ++ others) ≡ users_from k i rings ++ users_from k (i + length rings) others
users_append k i [] others = let z : i ≡ i + 0 = omega arith in ap (λ n. users_from k n others) z
users_append k i (refs ∷ rings) others =
    let z : suc i + length rings ≡ i + length (refs ∷ rings) = omega arith in
    ap (λ ns. replicate (uses_of k refs) i ++ ns) (users_append k (suc i) rings others ∙ ap (λ n. users_from k (suc i) rings ++ users_from k n others) z)
    ∙ sym (append_assoc (replicate (uses_of k refs) i) (users_from k (suc i) rings) (users_from k (i + length (refs ∷ rings)) others))

-- ---- a ring is listed with one arc more

pub nothing_added : (ring : ℕ) (us : List (List ℕ)) → AddsUser ring [] us us
nothing_added ring us = record {
  many = refl;
  has = λ k j m. m;
  listed = λ k w u. absurd (both_ways false refl u);
  only = λ k j m. inl m;
  after = λ k w. sym (append-nil (users_at us k));
}

module _ {X : Type 0} (f : X → List ℕ) (ring : ℕ) (first us : List X) (x y : X) (refs : List ℤ) (i : ℕ) (r : ℤ) (l : i < length refs) (r_is : r ≡ get_or refs i r) (within : number_of r < length us)
    (x_is : x ≡ get_or us (number_of r) x) (y_is : f y ≡ f x ++ (ring ∷ [])) where
  abbrev arc : ℕ
  arc = number_of r

  abbrev old : List (List ℕ)
  old = map f us

  abbrev new : List (List ℕ)
  new = map f (slice_set us arc y)

  new_is : new ≡ slice_set old arc (f y)
  new_is = map-set f us arc y

  inside : arc < length old
  inside = omega (arith, within, length-map us f)

  old_here : users_at old arc ≡ f x
  old_here = get_or-map f us arc x [] within ∙ ap f (sym x_is)

  here : users_at new arc ≡ users_at old arc ++ (ring ∷ [])
  here = ap (λ us. users_at us arc) new_is ∙ get_or-set_same old arc (f y) [] inside ∙ y_is ∙ ap (λ js. js ++ (ring ∷ [])) (sym old_here)

  elsewhere : (k : ℕ) → k ≢ arc → users_at new k ≡ users_at old k
  elsewhere k n = ap (λ us. users_at us k) new_is ∙ get_or-set_other old arc k (f y) [] n

  has : (k j : ℕ) → Contains (users_at old k) j → Contains (users_at new k) j
  has k j h = on (cases_eq k arc)
    where
      on : (k ≡ arc) ⊎ (k ≢ arc) → Contains (users_at new k) j
      on (inl e) = subst (λ n. Contains (users_at new n) j) (sym e)
          (subst (λ js. Contains js j) (sym here) (Contains-append_left (users_at old arc) (ring ∷ []) j (subst (λ n. Contains (users_at old n) j) e h)))
      on (inr n) = subst (λ js. Contains js j) (sym (elsewhere k n)) h

  only : (k j : ℕ) → Contains (users_at new k) j → Contains (users_at old k) j ⊎ (j ≡ ring)
  only k j h = on (cases_eq k arc)
    where
      last : Contains (ring ∷ []) j → j ≡ ring
      last m = by (contains_cases ring [] j m)
        where
          by : (j ≡ ring) ⊎ Contains [] j → j ≡ ring
          by (inl e) = e
          by (inr k) = absurd (omega (arith, k.1))

      by : k ≡ arc → Contains (users_at old arc) j ⊎ Contains (ring ∷ []) j → Contains (users_at old k) j ⊎ (j ≡ ring)
      by e (inl m) = inl (subst (λ n. Contains (users_at old n) j) (sym e) m)
      by e (inr m) = inr (last m)

      on : (k ≡ arc) ⊎ (k ≢ arc) → Contains (users_at old k) j ⊎ (j ≡ ring)
      on (inl e) = by e (Contains-append_cases (users_at old arc) (ring ∷ []) j (subst (λ js. Contains js j) here (subst (λ n. Contains (users_at new n) j) e h)))
      on (inr n) = inl (subst (λ js. Contains js j) (elsewhere k n) h)

  -- with this arc they are those up to here
  one_more : (k : ℕ) → uses k (take (i + 1) refs) ≡ true → (uses k (take i refs) ≡ true) ⊎ (k ≡ arc)
  one_more k u = on (or_cases (uses k (take i refs)) (uses k (r ∷ [])) (sym (list_any-append (λ q. number_of q == k) (take i refs) (r ∷ [])) ∙ ap (uses k) (sym (take_here refs i r l r_is)) ∙ u))
    where
      on : (uses k (take i refs) ≡ true) ⊎ (uses k (r ∷ []) ≡ true) → (uses k (take i refs) ≡ true) ⊎ (k ≡ arc)
      on (inl h) = inl h
      on (inr h) = by (or_cases (arc == k) false h)
        where
          by : ((arc == k) ≡ true) ⊎ (false ≡ true) → (uses k (take i refs) ≡ true) ⊎ (k ≡ arc)
          by (inl e) = inr (sym (eqb-true arc k e))
          by (inr e) = absurd (both_ways false refl e)

  pub adds_one : AddsUser ring (take i refs) (map f first) old → AddsUser ring (take (i + 1) refs) (map f first) new
  adds_one h = record {
    many = ap length new_is ∙ length-set old arc (f y) ∙ h.many;
    has = λ k j m. has k j (h.has k j m);
    listed = λ k w u. listed k w (one_more k u);
    only = λ k j m. before k j (only k j m);
    after = λ k w. after k w (cases_eq k arc);
  }
    where
      more : (k : ℕ) → uses_of k (take (i + 1) refs) ≡ uses_of k (take i refs) + uses_of k (r ∷ [])
      more k = ap (uses_of k) (take_here refs i r l r_is) ∙ uses_append k (take i refs) (r ∷ [])

      after : (k : ℕ) → k < length new → (k ≡ arc) ⊎ (k ≢ arc) → users_at new k ≡ users_at (map f first) k ++ replicate (uses_of k (take (i + 1) refs)) ring
      after k w (inl e) =
          let t = uses_of k (take i refs) in
          let b = ap (λ (x : Bool). (if x then 1 else 0) + 0) (ap (λ n. arc == n) e ∙ test_same arc) in
          let z : t + 1 ≡ uses_of k (take (i + 1) refs) = omega (arith, more k, b) in
          ap (users_at new) e ∙ here ∙ ap (λ n. users_at old n ++ (ring ∷ [])) (sym e)
          ∙ ap (λ js. js ++ (ring ∷ [])) (h.after k (omega (arith, w, ap length new_is ∙ length-set old arc (f y))))
          ∙ append_assoc (users_at (map f first) k) (replicate t ring) (replicate 1 ring)
          ∙ ap (λ js. users_at (map f first) k ++ js) (replicate-append-replicate t 1 ring ∙ ap (λ n. replicate n ring) z)
      after k w (inr n) =
          let b = ap (λ (x : Bool). (if x then 1 else 0) + 0) (test_other arc k (λ e. n (sym e))) in
          let z : uses_of k (take i refs) ≡ uses_of k (take (i + 1) refs) = omega (arith, more k, b) in
          elsewhere k n ∙ h.after k (omega (arith, w, ap length new_is ∙ length-set old arc (f y))) ∙ ap (λ t. users_at (map f first) k ++ replicate t ring) z

      listed : (k : ℕ) → k < length new → (uses k (take i refs) ≡ true) ⊎ (k ≡ arc) → Contains (users_at new k) ring
      listed k w (inl u) = has k ring (h.listed k (omega (arith, w, ap length new_is ∙ length-set old arc (f y))) u)
      listed k w (inr e) = subst (λ n. Contains (users_at new n) ring) (sym e) (subst (λ js. Contains js ring) (sym here) (Contains-append_right (users_at old arc) (ring ∷ []) ring (contains_here ring [])))

      before : (k j : ℕ) → Contains (users_at old k) j ⊎ (j ≡ ring) → Contains (users_at (map f first) k) j ⊎ (j ≡ ring)
      before k j (inl m) = h.only k j m
      before k j (inr e) = inr e

-- ---- ring by ring

pub no_rings : (n : ℕ) (rings : List (List ℤ)) (us : List (List ℕ)) → us ≡ replicate n [] → AreUsers 0 rings us
no_rings n rings us is = record {
  ring = λ k j m. absurd (empty j (subst (λ js. Contains js j) (none k) m));
  listed = λ k j w l u. absurd (omega (arith, l));
  are = λ k w. none k;
}
  where
    none : (k : ℕ) → users_at us k ≡ []
    none k = ap (λ x. users_at x k) is ∙ on (cases_lt k n)
      where
        on : (k < n) ⊎ (n ≤ k) → users_at (replicate n []) k ≡ []
        on (inl l) = get_or-replicate n k [] [] l
        on (inr l) = get_or_past (replicate n []) k [] (let nil : List ℕ = [] in omega (arith, l, length-replicate n nil))

    empty : (j : ℕ) → Contains [] j → ⊥
    empty j m = omega (arith, m.1)

pub one_ring_more : (rings : List (List ℤ)) (refs : List ℤ) (j : ℕ) (old new : List (List ℕ)) → j < length rings → refs ≡ ring_at rings j → AddsUser j refs old new → AreUsers j rings old → AreUsers (j + 1) rings new
one_ring_more rings refs j old new there is a h = record {
  ring = λ k i m. within k i (a.only k i m);
  listed = λ k i w l u. on k i w u (cases_lt i j) l;
  are = λ k w. a.after k w ∙ ap (λ js. js ++ replicate (uses_of k refs) j) (h.are k (omega (arith, w, a.many))) ∙ sym (together k);
}
  where
    together : (k : ℕ) → users_from k 0 (take (j + 1) rings) ≡ users_from k 0 (take j rings) ++ replicate (uses_of k refs) j
    together k =
        let z : 0 + length (take j rings) ≡ j = omega (arith, length-take-le j rings (omega (arith, there))) in
        ap (users_from k 0) (take_here rings j refs there (is ∙ sym (get_or_default rings j refs [] there)))
        ∙ users_append k 0 (take j rings) (refs ∷ [])
        ∙ ap (λ js. users_from k 0 (take j rings) ++ js) (append-nil (replicate (uses_of k refs) (0 + length (take j rings))) ∙ ap (replicate (uses_of k refs)) z)

    within : (k i : ℕ) → Contains (users_at old k) i ⊎ (i ≡ j) → i < j + 1
    within k i (inl m) = let l = h.ring k i m in omega (arith, l)
    within k i (inr e) = omega (arith, e)

    on : (k i : ℕ) → k < length new → uses k (ring_at rings i) ≡ true → (i < j) ⊎ (j ≤ i) → i < j + 1 → Contains (users_at new k) i
    on k i w u (inl l) m = a.has k i (h.listed k i (omega (arith, w, a.many)) l u)
    on k i w u (inr l) m =
        let e : j ≡ i = omega (arith, l, m) in
        subst (λ n. Contains (users_at new k) n) e (a.listed k w (ap (uses k) is ∙ ap (λ n. uses k (ring_at rings n)) e ∙ u))

-- ---- how often lines move on

pub one_step_more : (ps : List Point) (p q : Point) (i m n : ℕ) → 0 < i → i < length ps → p ≡ get_or ps (i - 1) p → q ≡ get_or ps i q → m + moves (drop (i - 1) ps) ≡ moves ps → n ≡ m + steps p q → n + moves (drop i ps) ≡ moves ps
one_step_more ps p q i m n some within p_is q_is h e =
    let before : i - 1 < length ps = omega (arith, within) in
    let next : (i - 1) + 1 ≡ i = omega (arith, some) in
    let here : drop (i - 1) ps ≡ p ∷ drop i ps = drop_here ps (i - 1) p before p_is ∙ ap (λ k. p ∷ drop k ps) next in
    let there : drop i ps ≡ q ∷ drop (i + 1) ps = drop_here ps i q within q_is in
    let a : moves (drop (i - 1) ps) ≡ steps p q + moves (drop i ps) = ap moves here ∙ ap (λ qs. moves (p ∷ qs)) there ∙ ap (λ qs. steps p q + moves qs) (sym there) in
    omega (arith, a, h, e)

pub all_steps_taken : (ps : List Point) (i m : ℕ) → length ps ≤ i → m + moves (drop (i - 1) ps) ≡ moves ps → m ≡ moves ps
all_steps_taken ps i m l h = let e = few (drop (i - 1) ps) (omega (arith, l, length-drop (i - 1) ps)) in omega (arith, e, h)
  where
    few : (qs : List Point) → length qs ≤ 1 → moves qs ≡ 0
    few [] k = refl
    few (q ∷ []) k = refl
    few (q ∷ (r ∷ qs)) k = absurd (omega (arith, k))

-- ---- how often a ring moves on

-- what is read of a list of numbers
pub read : (ms : List ℕ) (i v : ℕ) → i < length ms → v ≡ get_or ms i v → v ≡ slice_index_or ms i 0
read ms i v h e = e ∙ get_or_default ms i v 0 h

-- ---- the rings of an arc

contains_at : (js : List ℕ) (i : ℕ) → i < length js → Contains js (slice_index_or js i 0)
contains_at js i h = (i, h, get_or_default js i (slice_index_or js i 0) 0 h)

pub listed_within : (js : List ℕ) (n i : ℕ) → i < length js → ((j : ℕ) → Contains js j → j < n) → slice_index_or js i 0 < n
listed_within js n i h f = f (slice_index_or js i 0) (contains_at js i h)

pub here_first : (js : List ℕ) (i : ℕ) → i < length js → drop i js ≡ slice_index_or js i 0 ∷ drop (i + 1) js
here_first js i h = drop_here js i (slice_index_or js i 0) h (get_or_default js i 0 (slice_index_or js i 0) h)

-- the list that was read
pub users_read : {X : Type 0} (f : X → List ℕ) (us : List X) (k : ℕ) (x : X) → k < length us → x ≡ get_or us k x → f x ≡ users_at (map f us) k
users_read f us k x h e = ap f e ∙ sym (get_or-map f us k x [] h)

-- the ring that was read
pub ring_read : (rings : List (List ℤ)) (j : ℕ) (refs : List ℤ) → j < length rings → refs ≡ get_or rings j refs → refs ≡ ring_at rings j
ring_read rings j refs h e = e ∙ get_or_default rings j refs [] h
