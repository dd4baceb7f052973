-- What rings lose with an arc that they use.
use Rattle.std.proofs.Common.{◌≡◌, ◌≢◌, ℕ, zero, suc, ℤ, ◌+◌, ◌-◌, ◌*◌, ◌<◌, ◌≤◌, ◌==◌, Bool, true, false, not, ◌||◌, ◌&&◌, nat_le, List, [], ◌∷◌, ◌++◌, get_or, length, map, drop, replicate, slice_index, slice_index_or, slice_set, get_or-set_same, get_or-set_other, if◌then◌else◌, refl, ap, sym, ◌∙◌, subst, ◌⊎◌, inl, inr, arith}
use Rattle.std.specs.List.{Contains, list_all}
use Rattle.std.proofs.Math.Nat.{suc-mul}
use Rattle.std.proofs.lemmas.Bool.{cases_eq, eqb-true}
use Rattle.std.proofs.lemmas.Bool.Decides.{nat_tests}
use Rattle.std.proofs.lemmas.List.{ext_get_or, get_or-map, length-drop, length-map, nil_from_length, take_all}
use Rattle.geometry.specs.Joins.{number_of}
use Rattle.guarded_meaning.specs.Guards.{uses}
use Rattle.guarded_reduction.specs.Moves.{Counted, capped, HasSums, ring_at, ring_moves, stays, times, users_at, users_from, uses_of}
use Rattle.guarded_reduction.proofs.Users.{here_first, listed_within, no_rings, test_other, test_same}

-- ---- one ring

other_than : (m n : ℕ) → (m == n) ≡ false → m ≢ n
other_than m n e = grind (arith, nat_tests)

-- a ring loses what an arc loses as often as it uses it
pub lost_by : (ms : List ℕ) (k left : ℕ) (refs : List ℤ) → k < length ms → left ≤ slice_index ms k → ring_moves (slice_set ms k left) refs + uses_of k refs * (slice_index ms k - left) ≡ ring_moves ms refs
lost_by ms k left [] w h = omega arith
lost_by ms k left (r ∷ refs) w h = on (number_of r == k) refl (lost_by ms k left refs w h)
  where
    new : List ℕ
    new = slice_set ms k left

    n : ℕ
    n = slice_index ms k - left

    on : (b : Bool) → (number_of r == k) ≡ b → ring_moves new refs + uses_of k refs * n ≡ ring_moves ms refs → ring_moves new (r ∷ refs) + uses_of k (r ∷ refs) * n ≡ ring_moves ms (r ∷ refs)
    on true e g =
        let is : number_of r ≡ k = eqb-true (number_of r) k e in
        let a : slice_index_or new (number_of r) 0 ≡ left = ap (λ i. slice_index_or new i 0) is ∙ get_or-set_same ms k left 0 w in
        let b : slice_index_or ms (number_of r) 0 ≡ slice_index ms k = ap (λ i. slice_index_or ms i 0) is in
        let y : 1 + uses_of k refs ≡ suc (uses_of k refs) = omega arith in
        let c : uses_of k (r ∷ refs) * n ≡ uses_of k refs * n + n = ap (λ t. ((if t then 1 else 0) + uses_of k refs) * n) e ∙ ap (λ t. t * n) y ∙ suc-mul (uses_of k refs) n in
        omega (arith, a, b, c, g, h)
    on false e g =
        let a : slice_index_or new (number_of r) 0 ≡ slice_index_or ms (number_of r) 0 = get_or-set_other ms k (number_of r) left 0 (other_than (number_of r) k e) in
        let y : 0 + uses_of k refs ≡ uses_of k refs = omega arith in
        let c : uses_of k (r ∷ refs) * n ≡ uses_of k refs * n = ap (λ t. ((if t then 1 else 0) + uses_of k refs) * n) e ∙ ap (λ t. t * n) y in
        omega (arith, a, c, g)

pub less : (ms : List ℕ) (k left : ℕ) (refs : List ℤ) → k < length ms → left ≤ slice_index ms k → ring_moves (slice_set ms k left) refs ≡ ring_moves ms refs - uses_of k refs * (slice_index ms k - left)
less ms k left refs w h = let e = lost_by ms k left refs w h in omega (arith, e)

unused : (k : ℕ) (refs : List ℤ) → uses_of k refs ≡ 0 → uses k refs ≡ false
unused k [] h = refl
unused k (r ∷ refs) h = on (number_of r == k) refl (unused k refs)
  where
    on : (b : Bool) → (number_of r == k) ≡ b → (uses_of k refs ≡ 0 → uses k refs ≡ false) → uses k (r ∷ refs) ≡ false
    on true e g = let a = ap (λ t. (if t then 1 else 0) + uses_of k refs) e in absurd (omega (arith, a, h))
    on false e g = let a = ap (λ t. (if t then 1 else 0) + uses_of k refs) e in ap (λ t. t || uses k refs) e ∙ g (omega (arith, a, h))

in_use : (k : ℕ) (refs : List ℤ) → 0 < uses_of k refs → uses k refs ≡ true
in_use k [] h = absurd (omega (arith, h))
in_use k (r ∷ refs) h = on (number_of r == k) refl (in_use k refs)
  where
    on : (b : Bool) → (number_of r == k) ≡ b → (0 < uses_of k refs → uses k refs ≡ true) → uses k (r ∷ refs) ≡ true
    on true e g = ap (λ t. t || uses k refs) e
    on false e g = let a = ap (λ t. (if t then 1 else 0) + uses_of k refs) e in ap (λ t. t || uses k refs) e ∙ g (omega (arith, a, h))

-- ---- through the list of an arc's rings

-- what is left to ring j, where so much is left to the ring before it in the list
abbrev pub so_far : List ℕ → ℕ → ℕ → ℕ → ℕ
so_far ss ring sum j = if j == ring then sum else slice_index ss j

-- all have enough left, where each loses n as often as it comes
abbrev pub enough_left : List ℕ → ℕ → ℕ → ℕ → List ℕ → Bool
enough_left ss n ring sum [] = true
enough_left ss n ring sum (j ∷ js) = nat_le 3 (so_far ss ring sum j - n) && enough_left ss n j (so_far ss ring sum j - n) js

module _ (ss : List ℕ) (n : ℕ) where
  starts : (ring sum j : ℕ) (js : List ℕ) → so_far ss ring sum j ≡ slice_index ss j → enough_left ss n ring sum (j ∷ js) ≡ nat_le 3 (slice_index ss j - n) && enough_left ss n j (slice_index ss j - n) js
  starts ring sum j js e = ap (λ s. nat_le 3 (s - n) && enough_left ss n j (s - n) js) e

  same_on : (sum j : ℕ) (js : List ℕ) → enough_left ss n j sum (j ∷ js) ≡ nat_le 3 (sum - n) && enough_left ss n j (sum - n) js
  same_on sum j js = ap (λ s. nat_le 3 (s - n) && enough_left ss n j (s - n) js) (ap (λ b. if b then sum else slice_index ss j) (test_same j))

  both : (a b : ℕ) (c : Bool) → b ≤ a → nat_le 3 a && (nat_le 3 b && c) ≡ nat_le 3 b && c
  both a b c h = on (nat_le 3 b) refl
    where
      on : (d : Bool) → nat_le 3 b ≡ d → nat_le 3 a && (nat_le 3 b && c) ≡ nat_le 3 b && c
      on true e = let f : nat_le 3 a ≡ true = grind (arith, nat_tests) in ap (λ t. t && (nat_le 3 b && c)) f
      on false e = ap (λ t. nat_le 3 a && (t && c)) e ∙ none (nat_le 3 a) ∙ sym (ap (λ t. t && c) e)
        where
          none : (t : Bool) → t && false ≡ false
          none true = refl
          none false = refl

  -- a run of the same ring
  run : (t j sum : ℕ) (js : List ℕ) → nat_le 3 (sum - n) && enough_left ss n j (sum - n) (replicate t j ++ js) ≡ nat_le 3 (sum - (n + t * n)) && enough_left ss n j (sum - (n + t * n)) js
  run zero j sum js = let e : sum - n ≡ sum - (n + 0 * n) = omega arith in ap (λ s. nat_le 3 s && enough_left ss n j s js) e
  run (suc t) j sum js =
      let m = suc-mul t n in
      let e : (sum - n) - (n + t * n) ≡ sum - (n + suc t * n) = omega (arith, m) in
      ap (λ b. nat_le 3 (sum - n) && b) (same_on (sum - n) j (replicate t j ++ js) ∙ run t j (sum - n) js)
      ∙ both (sum - n) ((sum - n) - (n + t * n)) (enough_left ss n j ((sum - n) - (n + t * n)) js) (omega arith)
      ∙ ap (λ s. nat_le 3 s && enough_left ss n j s js) e

  module _ (ms : List ℕ) (k left : ℕ) (within : k < length ms) (few : left ≤ slice_index ms k) (n_is : n ≡ slice_index ms k - left) where
    abbrev asks : List ℤ → Bool
    asks refs = not (uses k refs) || stays (slice_set ms k left) refs

    asked : (refs : List ℤ) (t : ℕ) → uses_of k refs ≡ suc t → asks refs ≡ nat_le 3 (ring_moves ms refs - (n + t * n))
    unfolding stays
    asked refs t e =
        let m = suc-mul t n in
        let f : uses_of k refs * (slice_index ms k - left) ≡ suc t * n = ap (λ u. u * (slice_index ms k - left)) e ∙ ap (λ d. suc t * d) (sym n_is) in
        let g = less ms k left refs within few in
        let h : ring_moves (slice_set ms k left) refs ≡ ring_moves ms refs - (n + t * n) = omega (arith, f, g, m) in
        ap (λ b. not b || stays (slice_set ms k left) refs) (in_use k refs (omega (arith, e))) ∙ ap (nat_le 3) h

    pub all_asked : (rings : List (List ℤ)) (j ring sum : ℕ) → ((i : ℕ) → i < length rings → slice_index ss (j + i) ≡ ring_moves ms (ring_at rings i)) → (ring < j) ⊎ ((ring ≡ j) × (sum ≡ slice_index ss j)) → enough_left ss n ring sum (users_from k j rings) ≡ list_all asks rings
    all_asked [] j ring sum h o = refl
    all_asked (refs ∷ rings) j ring sum h o = on (uses_of k refs) refl (λ before so l. all_asked rings (suc j) before so later (inl l))
      where
        later : (i : ℕ) → i < length rings → slice_index ss (suc j + i) ≡ ring_moves ms (ring_at rings i)
        later i l = ap (slice_index ss) (omega arith) ∙ h (suc i) (omega (arith, l))

        here : slice_index ss j ≡ ring_moves ms refs
        here = ap (slice_index ss) (omega arith) ∙ h 0 (omega arith)

        before : ring < suc j
        before = by o
          where
            by : (ring < j) ⊎ ((ring ≡ j) × (sum ≡ slice_index ss j)) → ring < suc j
            by (inl l) = omega (arith, l)
            by (inr e) = omega (arith, e.0)

        taken_up : (ring < j) ⊎ ((ring ≡ j) × (sum ≡ slice_index ss j)) → so_far ss ring sum j ≡ slice_index ss j
        taken_up (inl l) = ap (λ b. if b then sum else slice_index ss j) (test_other j ring (λ e. omega (arith, e, l)))
        taken_up (inr e) = ap (λ b. if b then sum else slice_index ss j) (ap (λ i. j == i) e.0 ∙ test_same j) ∙ e.1

        on : (t : ℕ) → uses_of k refs ≡ t → ((last so : ℕ) → last < suc j → enough_left ss n last so (users_from k (suc j) rings) ≡ list_all asks rings) → enough_left ss n ring sum (replicate (uses_of k refs) j ++ users_from k (suc j) rings) ≡ asks refs && list_all asks rings
        on zero e g = ap (λ u. enough_left ss n ring sum (replicate u j ++ users_from k (suc j) rings)) e ∙ g ring sum before
            ∙ sym (ap (λ b. (not b || stays (slice_set ms k left) refs) && list_all asks rings) (unused k refs e))
        on (suc t) e g = ap (λ u. enough_left ss n ring sum (replicate u j ++ users_from k (suc j) rings)) e
            ∙ starts ring sum j (replicate t j ++ users_from k (suc j) rings) (taken_up o)
            ∙ run t j (slice_index ss j) (users_from k (suc j) rings)
            ∙ ap (λ b. nat_le 3 (slice_index ss j - (n + t * n)) && b) (g j (slice_index ss j - (n + t * n)) (omega arith))
            ∙ ap (λ b. b && list_all asks rings) (ap (λ s. nat_le 3 (s - (n + t * n))) here ∙ sym (asked refs t e))

-- ---- how often a ring is in the list

times_append : (k : ℕ) (ns ms : List ℕ) → times k (ns ++ ms) ≡ times k ns + times k ms
times_append k [] ms = omega arith
times_append k (n ∷ ns) ms = let h = times_append k ns ms in omega (arith, h)

times_same : (k t : ℕ) → times k (replicate t k) ≡ t
times_same k zero = refl
times_same k (suc t) = let h = times_same k t in let e = ap (λ b. (if b then 1 else 0) + times k (replicate t k)) (test_same k) in omega (arith, h, e)

times_other : (k j t : ℕ) → j ≢ k → times k (replicate t j) ≡ 0
times_other k j zero n = refl
times_other k j (suc t) n = let h = times_other k j t n in let e = ap (λ b. (if b then 1 else 0) + times k (replicate t j)) (test_other j k n) in omega (arith, h, e)

not_yet : (k j i : ℕ) (rings : List (List ℤ)) → i < j → times i (users_from k j rings) ≡ 0
not_yet k j i [] l = refl
not_yet k j i (refs ∷ rings) l =
    let a = times_append i (replicate (uses_of k refs) j) (users_from k (suc j) rings) in
    let b = times_other i j (uses_of k refs) (λ e. omega (arith, e, l)) in
    let c = not_yet k (suc j) i rings (omega (arith, l)) in
    omega (arith, a, b, c)

-- as often as it uses the arc
pub times_in_list : (k j i : ℕ) (rings : List (List ℤ)) → times (j + i) (users_from k j rings) ≡ uses_of k (ring_at rings i)
times_in_list k j i [] = refl
times_in_list k j zero (refs ∷ rings) =
    let z : j + 0 ≡ j = omega arith in
    let a = times_append j (replicate (uses_of k refs) j) (users_from k (suc j) rings) in
    let b = times_same j (uses_of k refs) in
    let c = not_yet k (suc j) j rings (omega arith) in
    ap (λ m. times m (users_from k j (refs ∷ rings))) z ∙ (omega (arith, a, b, c))
times_in_list k j (suc i) (refs ∷ rings) =
    let z : j + suc i ≡ suc j + i = omega arith in
    let a = times_append (suc j + i) (replicate (uses_of k refs) j) (users_from k (suc j) rings) in
    let b = times_other (suc j + i) j (uses_of k refs) (λ e. omega (arith, e)) in
    let c = times_in_list k (suc j) i rings in
    ap (λ m. times m (users_from k j (refs ∷ rings))) z ∙ (omega (arith, a, b, c))

-- ---- after a loss

-- the sums when each lost as often as it is in the list of the arc
pub sums_after : (ss new ms : List ℕ) (k left : ℕ) (rings : List (List ℤ)) (users : List ℕ) (n : ℕ) → k < length ms → left ≤ slice_index ms k → n ≡ slice_index ms k - left → users ≡ users_from k 0 rings → ss ≡ map (ring_moves ms) rings
    → length new ≡ length ss → ((j : ℕ) → slice_index_or new j 0 ≡ slice_index_or ss j 0 - times j users * n) → new ≡ map (ring_moves (slice_set ms k left)) rings
sums_after ss new ms k left rings users n within few n_is users_are sums_are many each = ext_get_or 0 new (map (ring_moves after) rings) (as_many ∙ sym (length-map rings (ring_moves after))) at_one
  where
    after : List ℕ
    after = slice_set ms k left

    as_many : length new ≡ length rings
    as_many = many ∙ ap length sums_are ∙ length-map rings (ring_moves ms)

    at_one : (j : ℕ) → j < length new → get_or new j 0 ≡ get_or (map (ring_moves after) rings) j 0
    at_one j l =
        let w : j < length rings = omega (arith, l, as_many) in
        let a : slice_index_or ss j 0 ≡ ring_moves ms (ring_at rings j) = ap (λ ns. slice_index_or ns j 0) sums_are ∙ get_or-map (ring_moves ms) rings j [] 0 w in
        let z : j ≡ 0 + j = omega arith in
        let b : times j users * n ≡ uses_of k (ring_at rings j) * (slice_index ms k - left) = ap (λ us. times j us * n) users_are ∙ ap (λ i. times i (users_from k 0 rings) * n) z ∙ ap (λ t. t * n) (times_in_list k 0 j rings) ∙ ap (λ d. uses_of k (ring_at rings j) * d) n_is in
        let c = less ms k left (ring_at rings j) within few in
        let d : get_or (map (ring_moves after) rings) j 0 ≡ ring_moves after (ring_at rings j) = get_or-map (ring_moves after) rings j [] 0 w in
        each j ∙ (omega (arith, a, b, c)) ∙ sym d

-- ---- where no arc counts for more than three moves

pub capped_at : (ms : List ℕ) (n : ℕ) → slice_index_or (map capped ms) n 0 ≡ capped (slice_index_or ms n 0)
capped_at [] n = refl
capped_at (m ∷ ms) zero = refl
capped_at (m ∷ ms) (suc n) = capped_at ms n

pub at_most : (m : ℕ) → capped m ≤ 3
at_most m = on (nat_le 3 m) refl
  where
    on : (b : Bool) → nat_le 3 m ≡ b → capped m ≤ 3
    on true e = let f : capped m ≡ 3 = ap (λ (x : Bool). if x then 3 else m) e in omega (arith, f)
    on false e = let f : capped m ≡ m = ap (λ (x : Bool). if x then 3 else m) e in let g : m < 3 = grind (arith, nat_tests) in omega (arith, f, g)

-- an arc that moves on less often counts for all of it
pub as_it_is : (m : ℕ) → m < 3 → capped m ≡ m
as_it_is m l = let e : nat_le 3 m ≡ false = grind (arith, nat_tests) in ap (λ (x : Bool). if x then 3 else m) e

no_more : (m : ℕ) → (capped m ≡ m) ⊎ ((capped m ≡ 3) × (3 ≤ m))
no_more m = on (nat_le 3 m) refl
  where
    on : (b : Bool) → nat_le 3 m ≡ b → (capped m ≡ m) ⊎ ((capped m ≡ 3) × (3 ≤ m))
    on true e = inr (ap (λ (x : Bool). if x then 3 else m) e, grind (arith, nat_tests))
    on false e = inl (ap (λ (x : Bool). if x then 3 else m) e)

-- a ring moves on as often, or three times at least either way
as_often : (ms : List ℕ) (refs : List ℤ) → (ring_moves (map capped ms) refs ≡ ring_moves ms refs) ⊎ ((3 ≤ ring_moves (map capped ms) refs) × (3 ≤ ring_moves ms refs))
as_often ms [] = inl refl
as_often ms (r ∷ refs) = on (no_more (slice_index_or ms (number_of r) 0)) (as_often ms refs)
  where
    here : slice_index_or (map capped ms) (number_of r) 0 ≡ capped (slice_index_or ms (number_of r) 0)
    here = capped_at ms (number_of r)

    on : (capped (slice_index_or ms (number_of r) 0) ≡ slice_index_or ms (number_of r) 0) ⊎ ((capped (slice_index_or ms (number_of r) 0) ≡ 3) × (3 ≤ slice_index_or ms (number_of r) 0))
        → (ring_moves (map capped ms) refs ≡ ring_moves ms refs) ⊎ ((3 ≤ ring_moves (map capped ms) refs) × (3 ≤ ring_moves ms refs))
        → (ring_moves (map capped ms) (r ∷ refs) ≡ ring_moves ms (r ∷ refs)) ⊎ ((3 ≤ ring_moves (map capped ms) (r ∷ refs)) × (3 ≤ ring_moves ms (r ∷ refs)))
    on (inl e) (inl f) = inl (omega (arith, here, e, f))
    on (inl e) (inr f) = inr (omega (arith, f.0), omega (arith, f.1))
    on (inr e) g = inr (omega (arith, here, e.0), omega (arith, e.1))

pub stays_capped : (ms : List ℕ) (refs : List ℤ) → stays (map capped ms) refs ≡ stays ms refs
unfolding stays
stays_capped ms refs = on (as_often ms refs)
  where
    on : (ring_moves (map capped ms) refs ≡ ring_moves ms refs) ⊎ ((3 ≤ ring_moves (map capped ms) refs) × (3 ≤ ring_moves ms refs)) → nat_le 3 (ring_moves (map capped ms) refs) ≡ nat_le 3 (ring_moves ms refs)
    on (inl e) = ap (nat_le 3) e
    on (inr e) = let f : nat_le 3 (ring_moves (map capped ms) refs) ≡ true = grind (arith, nat_tests) in let g : nat_le 3 (ring_moves ms refs) ≡ true = grind (arith, nat_tests) in f ∙ sym g

pub set_capped : (ms : List ℕ) (k left : ℕ) → map capped (slice_set ms k left) ≡ slice_set (map capped ms) k (capped left)
set_capped [] k left = refl
set_capped (m ∷ ms) zero left = refl
set_capped (m ∷ ms) (suc k) left = ap (λ xs. capped m ∷ xs) (set_capped ms k left)

-- it counts for no more where it moves on no more
pub no_more_than : (left m : ℕ) → left ≤ m → capped left ≤ capped m
no_more_than left m h = on (no_more left) (no_more m)
  where
    on : (capped left ≡ left) ⊎ ((capped left ≡ 3) × (3 ≤ left)) → (capped m ≡ m) ⊎ ((capped m ≡ 3) × (3 ≤ m)) → capped left ≤ capped m
    on (inl e) (inl f) = omega (arith, e, f, h)
    on (inr e) (inl f) = omega (arith, e.0, e.1, f, h)
    on o (inr f) = let a = at_most left in omega (arith, a, f.0)

-- ---- what is kept

module _ (g : Counted) (ss : List ℕ) (h : HasSums g ss) where
  pub many_sums : length ss ≡ length g.rings
  many_sums = ap length h.sums_are ∙ length-map g.rings (ring_moves (map capped g.moves))

  pub users_are : (k : ℕ) → k < length g.moves → users_at g.users k ≡ users_from k 0 g.rings
  users_are k w = h.ready.users.are k (omega (arith, w, h.ready.many)) ∙ ap (users_from k 0) (take_all (length g.rings) g.rings (omega arith))

  pub listed_has_sum : (k i : ℕ) (js : List ℕ) → js ≡ users_at g.users k → i < length js → slice_index_or js i 0 < length ss
  listed_has_sum k i js is l =
      let w = listed_within js (length g.rings) i l (λ j m. h.ready.users.ring k j (subst (λ ns. Contains ns j) is m)) in
      omega (arith, w, many_sums)

  pub all_stay_is : (k left m s : ℕ) → k < length g.moves → left ≤ slice_index g.moves k → left < 3 → m ≡ slice_index g.moves k → s ≡ slice_index ss 0
      → enough_left ss (capped m - left) 0 s (users_at g.users k) ≡ list_all (λ refs. not (uses k refs) || stays (slice_set g.moves k left) refs) g.rings
  all_stay_is k left m s w f l m_is s_is =
      ap (enough_left ss (capped m - left) 0 s) (users_are k w) ∙ all_asked ss (capped m - left) (map capped g.moves) k left within few n_is g.rings 0 0 s
      (λ i l. ap (slice_index ss) (omega arith) ∙ ap (λ ns. slice_index ns i) h.sums_are ∙ get_or-map (ring_moves (map capped g.moves)) g.rings i [] 0 l) (inr (refl, s_is))
      ∙ all_alike g.rings
    where
      within : k < length (map capped g.moves)
      within = omega (arith, w, length-map g.moves capped)

      here : slice_index (map capped g.moves) k ≡ capped (slice_index g.moves k)
      here = capped_at g.moves k

      few : left ≤ slice_index (map capped g.moves) k
      few = on (no_more (slice_index g.moves k))
        where
          on : (capped (slice_index g.moves k) ≡ slice_index g.moves k) ⊎ ((capped (slice_index g.moves k) ≡ 3) × (3 ≤ slice_index g.moves k)) → left ≤ slice_index (map capped g.moves) k
          on (inl e) = omega (arith, here, e, f)
          on (inr e) = omega (arith, here, e.0, l)

      n_is : capped m - left ≡ slice_index (map capped g.moves) k - left
      n_is = ap (λ x. capped x - left) m_is ∙ ap (λ x. x - left) (sym here)

      alike : (refs : List ℤ) → (not (uses k refs) || stays (slice_set (map capped g.moves) k left) refs) ≡ (not (uses k refs) || stays (slice_set g.moves k left) refs)
      alike refs = ap (λ ms. not (uses k refs) || stays ms refs) (sym (set_capped g.moves k left ∙ ap (slice_set (map capped g.moves) k) (as_it_is left l))) ∙ ap (λ b. not (uses k refs) || b) (stays_capped (slice_set g.moves k left) refs)

      all_alike : (rings : List (List ℤ)) → list_all (λ refs. not (uses k refs) || stays (slice_set (map capped g.moves) k left) refs) rings ≡ list_all (λ refs. not (uses k refs) || stays (slice_set g.moves k left) refs) rings
      all_alike [] = refl
      all_alike (refs ∷ rings) = ap (λ b. b && list_all (λ r. not (uses k r) || stays (slice_set (map capped g.moves) k left) r) rings) (alike refs) ∙ ap (λ b. (not (uses k refs) || stays (slice_set g.moves k left) refs) && b) (all_alike rings)

-- where there is no ring, nothing is counted
no_sums : HasSums (record { rings = []; owners = []; moves = []; users = [] }) []
no_sums = record {
  ready = record {
    in_range = tt;
    owner = λ z l. absurd (omega (arith, l));
    many = refl;
    none = λ e. refl;
    users = no_rings 0 [] [] refl;
    stay = tt;
  };
  sums_are = refl;
}

pub nothing_counted : (rings : List (List ℤ)) (os ms ss : List ℕ) (us : List (List ℕ)) → rings ≡ [] → os ≡ [] → ms ≡ [] → us ≡ [] → ss ≡ [] → HasSums (record { rings = rings; owners = os; moves = ms; users = us }) ss
nothing_counted rings os ms ss us a b c d e = rw (a, b, c, d, e) no_sums

-- ---- as loops go

module _ (ss : List ℕ) (n ring sum : ℕ) (js : List ℕ) (i : ℕ) (b : Bool) where
  pub none_more : length js ≤ i → enough_left ss n ring sum (drop i js) ≡ b → true ≡ b
  none_more l e = sym (ap (enough_left ss n ring sum) (nil_from_length (drop i js) (omega (arith, l, length-drop i js)))) ∙ e

  here_is : (s : ℕ) → i < length js → s ≡ so_far ss ring sum (slice_index_or js i 0) - n → enough_left ss n ring sum (drop i js) ≡ nat_le 3 s && enough_left ss n (slice_index_or js i 0) s (drop (i + 1) js)
  here_is s l e = ap (enough_left ss n ring sum) (here_first js i l) ∙ ap (λ x. nat_le 3 x && enough_left ss n (slice_index_or js i 0) x (drop (i + 1) js)) (sym e)

  pub one_fails : (s : ℕ) → i < length js → s ≡ so_far ss ring sum (slice_index_or js i 0) - n → s < 3 → enough_left ss n ring sum (drop i js) ≡ b → false ≡ b
  one_fails s l e few h = let f : nat_le 3 s ≡ false = grind (arith, nat_tests) in sym (here_is s l e ∙ ap (λ t. t && enough_left ss n (slice_index_or js i 0) s (drop (i + 1) js)) f) ∙ h

  pub one_has_enough : (s : ℕ) → i < length js → s ≡ so_far ss ring sum (slice_index_or js i 0) - n → 3 ≤ s → enough_left ss n ring sum (drop i js) ≡ b → enough_left ss n (slice_index_or js i 0) s (drop (i + 1) js) ≡ b
  one_has_enough s l e some h = let f : nat_le 3 s ≡ true = grind (arith, nat_tests) in sym (here_is s l e ∙ ap (λ t. t && enough_left ss n (slice_index_or js i 0) s (drop (i + 1) js)) f) ∙ h

-- one of the list has lost n
pub one_lost : (ss first js : List ℕ) (n i v : ℕ) → i < length js → slice_index_or js i 0 < length ss → v ≡ slice_index_or ss (slice_index_or js i 0) 0 - n
    → ((j : ℕ) → slice_index_or ss j 0 - times j (drop i js) * n ≡ slice_index_or first j 0 - times j js * n)
    → (j : ℕ) → slice_index_or (slice_set ss (slice_index_or js i 0) v) j 0 - times j (drop (i + 1) js) * n ≡ slice_index_or first j 0 - times j js * n
one_lost ss first js n i v l w v_is h j = on (cases_eq j u)
  where
    u : ℕ
    u = slice_index_or js i 0

    t : ℕ
    t = times j (drop (i + 1) js)

    here : times j (drop i js) ≡ (if u == j then 1 else 0) + t
    here = ap (times j) (here_first js i l)

    on : (j ≡ u) ⊎ (j ≢ u) → slice_index_or (slice_set ss u v) j 0 - t * n ≡ slice_index_or first j 0 - times j js * n
    on (inl e) =
        let a : slice_index_or (slice_set ss u v) j 0 ≡ v = ap (λ k. slice_index_or (slice_set ss u v) k 0) e ∙ get_or-set_same ss u v 0 w in
        let b : slice_index_or ss u 0 ≡ slice_index_or ss j 0 = ap (λ k. slice_index_or ss k 0) (sym e) in
        let y : 1 + t ≡ suc t = omega arith in
        let c : times j (drop i js) * n ≡ t * n + n = ap (λ x. x * n) (here ∙ ap (λ (x : Bool). (if x then 1 else 0) + t) (ap (λ k. u == k) e ∙ test_same u) ∙ y) ∙ suc-mul t n in
        let d = h j in
        omega (arith, a, b, c, d, v_is)
    on (inr e) =
        let a : slice_index_or (slice_set ss u v) j 0 ≡ slice_index_or ss j 0 = get_or-set_other ss u j v 0 e in
        let y : 0 + t ≡ t = omega arith in
        let c : times j (drop i js) * n ≡ t * n = ap (λ x. x * n) (here ∙ ap (λ (x : Bool). (if x then 1 else 0) + t) (test_other u j (λ f. e (sym f))) ∙ y) in
        let d = h j in
        omega (arith, a, c, d)
