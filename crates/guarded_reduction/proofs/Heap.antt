-- What is queued.
use Rattle.std.proofs.Common.{◌≡◌, ◌≢◌, ℕ, ◌+◌, ◌-◌, ◌<◌, ◌≤◌, List, [], ◌∷◌, ◌++◌, length, refl, ap, sym, ◌∙◌, subst, ◌⊎◌, inl, inr, arith}
use Rattle.std.specs.List.{Contains}
use Rattle.std.specs.List.Sorted.{IsPermutation}
use Rattle.std.specs.declared.cmp.Reverse.{Reverse}
use Rattle.std.proofs.lemmas.Bool.{cases_eq}
use Rattle.std.proofs.lemmas.List.Sorted.{Contains-permutation, IsPermutation-sym, IsPermutation-to_front}
use Rattle.effective_area.proofs.HeapLaws.{contains_cases, contains_here, contains_later}
use Rattle.guarded_reduction.specs.declared.queue.entry.Entry.{Entry}
use Rattle.guarded_reduction.specs.Entries.{IsDue, IsSound, entry_in, turned}
use Rattle.geometry.specs.Units.{area_limit}
use Rattle.guarded_reduction.specs.Linking.{Linked, IsCorner}
use Rattle.guarded_reduction.specs.States.{IsHeld, IsQueued, NoneNext, Pushed, PushedFrom}
use Rattle.guarded_reduction.specs.declared.queue.waiting_lists.Wait.{Wait}
use Rattle.guarded_reduction.specs.Waiting.{Waiting, WaitsFrom, here, later, wait_at}

-- the entry of a corner that is due is sound
pub due_sound : (t : ℕ) (s : Linked) (v : ℕ) → IsDue t s v → IsSound t s.positions (entry_in s v)
due_sound t s v h = record { is = refl; before = h.corner.before; after = h.corner.after; under = h.under }

pub pushed : (t : ℕ) (s : Linked) (old new : List (Reverse Entry)) (v : ℕ) (e : Entry) → IsPermutation (turned e ∷ old) new → IsDue t s v → e ≡ entry_in s v → (IsCorner s v → (entry_in s v).area < area_limit) → Pushed t s old new v
pushed t s old new v e perm due is below = record {
  below = below;
  has = λ d h. Contains-permutation (turned e ∷ old) new (turned d) perm (contains_later (turned e) old (turned d) h);
  here = λ _. subst (λ x. Contains new (turned x)) is (Contains-permutation (turned e ∷ old) new (turned e) perm (contains_here (turned e) old));
  only = λ d h. on d (contains_cases (turned e) old (turned d) (Contains-permutation new (turned e ∷ old) (turned d) (IsPermutation-sym (turned e ∷ old) new perm) h));
}
  where
    on : (d : Entry) → (turned d ≡ turned e) ⊎ Contains old (turned d) → Contains old (turned d) ⊎ IsSound t s.positions d
    on d (inl k) = inr (subst (λ x. IsSound t s.positions x) (sym (ap (λ (x : Reverse Entry). x.0) k ∙ is)) (due_sound t s v due))
    on d (inr k) = inl k

-- ---- a round begins

-- what `push` of a `Vec` leaves
pub put_last : (old new : List (Reverse Entry)) (x : Reverse Entry) → new ≡ old ++ (x ∷ []) → IsPermutation (x ∷ old) new
put_last old new x is = subst (IsPermutation (x ∷ old)) (sym is) (IsPermutation-sym (old ++ (x ∷ [])) (x ∷ old) (IsPermutation-to_front old x))

pub pushed_from : (from t : ℕ) (s : Linked) (old new : List (Reverse Entry)) (v : ℕ) (e : Entry) → IsPermutation (turned e ∷ old) new → IsDue t s v → e ≡ entry_in s v → (IsCorner s v → (entry_in s v).area < area_limit) → PushedFrom from t s old new v
pushed_from from t s old new v e perm due is below =
    let p = pushed t s old new v e perm due is below in
    record { has = p.has; here = λ h. inr (p.here h); only = p.only; below = below }

-- one more place is looked at
pub one_more_from : (from t : ℕ) (s : Linked) (old new : List (Reverse Entry)) (v n : ℕ) → PushedFrom from t s old new n →
    ((u : ℕ) → u < n → IsDue t s u → ((entry_in s u).area < from) ⊎ Contains old (turned (entry_in s u))) → v < n + 1 → IsDue t s v → ((entry_in s v).area < from) ⊎ Contains new (turned (entry_in s v))
one_more_from from t s old new v n p h l due = on (cases_eq v n)
  where
    kept : ((entry_in s v).area < from) ⊎ Contains old (turned (entry_in s v)) → ((entry_in s v).area < from) ⊎ Contains new (turned (entry_in s v))
    kept (inl a) = inl a
    kept (inr k) = inr (p.has (entry_in s v) k)

    on : (v ≡ n) ⊎ (v ≢ n) → ((entry_in s v).area < from) ⊎ Contains new (turned (entry_in s v))
    on (inl e) = subst (λ (u : ℕ). ((entry_in s u).area < from) ⊎ Contains new (turned (entry_in s u))) (sym e) (p.here (subst (IsDue t s) e due))
    on (inr e) = kept (h v (omega (arith, l, e)) due)

pub one_more_below : (from t : ℕ) (s : Linked) (old new : List (Reverse Entry)) (v n : ℕ) → PushedFrom from t s old new n →
    ((u : ℕ) → u < n → IsCorner s u → (entry_in s u).area < area_limit) → v < n + 1 → IsCorner s v → (entry_in s v).area < area_limit
one_more_below from t s old new v n p h l k = on (cases_eq v n)
  where
    on : (v ≡ n) ⊎ (v ≢ n) → (entry_in s v).area < area_limit
    on (inl e) = subst (λ (u : ℕ). (entry_in s u).area < area_limit) (sym e) (p.below (subst (IsCorner s) e k))
    on (inr e) = h v (omega (arith, l, e)) k

pub still_sound : (from t : ℕ) (s : Linked) (old new : List (Reverse Entry)) (v : ℕ) → PushedFrom from t s old new v → ((d : Entry) → Contains old (turned d) → IsSound t s.positions d) →
    (d : Entry) → Contains new (turned d) → IsSound t s.positions d
still_sound from t s old new v p h d m = on (p.only d m)
  where
    on : Contains old (turned d) ⊎ IsSound t s.positions d → IsSound t s.positions d
    on (inl k) = h d k
    on (inr k) = k

-- those of earlier rounds wait, and the others are queued
pub round_queued : (from t : ℕ) (s : Linked) (items : List (Reverse Entry)) (w : Waiting) (n : ℕ) → NoneNext from s w → length s.positions ≤ n →
    ((v : ℕ) → v < n → IsDue t s v → ((entry_in s v).area < from) ⊎ Contains items (turned (entry_in s v))) → ((d : Entry) → Contains items (turned d) → IsSound t s.positions d) → IsQueued t s items w
round_queued from t s items w n none m has sound = record { covers = λ v h. on v h (has v (let l : v < length s.positions = h.corner.within in omega (arith, l, m)) h); sound = sound; firsts = none.firsts }
  where
    on : (v : ℕ) → IsDue t s v → ((entry_in s v).area < from) ⊎ Contains items (turned (entry_in s v)) → Contains items (turned (entry_in s v)) ⊎ IsHeld s w v
    on v h (inl a) = inr (none.held v (record { corner = h.corner; under = a; loose = h.loose }))
    on v h (inr k) = inl k

-- in whatever order they are
pub queued_alike : (t : ℕ) (s : Linked) (items new : List (Reverse Entry)) (w : Waiting) → IsPermutation items new → IsQueued t s items w → IsQueued t s new w
queued_alike t s items new w perm q = record {
  covers = λ v h. on v (q.covers v h);
  sound = λ e h. q.sound e (Contains-permutation new items (turned e) (IsPermutation-sym items new perm) h);
  firsts = q.firsts;
}
  where
    on : (v : ℕ) → Contains items (turned (entry_in s v)) ⊎ IsHeld s w v → Contains new (turned (entry_in s v)) ⊎ IsHeld s w v
    on v (inl k) = inl (Contains-permutation items new (turned (entry_in s v)) perm k)
    on v (inr k) = inr k

-- ---- those that wait are pushed

pub still_only : (t : ℕ) (s : Linked) (first old new : List (Reverse Entry)) (v : ℕ) → Pushed t s old new v → ((d : Entry) → Contains old (turned d) → Contains first (turned d) ⊎ IsSound t s.positions d) →
    (d : Entry) → Contains new (turned d) → Contains first (turned d) ⊎ IsSound t s.positions d
still_only t s first old new v p h d m = on (p.only d m)
  where
    on : Contains old (turned d) ⊎ IsSound t s.positions d → Contains first (turned d) ⊎ IsSound t s.positions d
    on (inl k) = h d k
    on (inr k) = inr k

-- one more wait is passed
pub walked : (t : ℕ) (s : Linked) (old new : List (Reverse Entry)) (ws : List Wait) (n v : ℕ) (wait : Wait) → wait ≡ wait_at ws (n - 1) → Pushed t s old new wait.corner →
    (IsDue t s v → Contains old (turned (entry_in s v))) ⊎ WaitsFrom ws n v → (IsDue t s v → Contains new (turned (entry_in s v))) ⊎ WaitsFrom ws wait.next v
walked t s old new ws n v wait is p (inl f) = inl (λ due. p.has (entry_in s v) (f due))
walked t s old new ws n v wait is p (inr (here i e l q)) =
    let z : n - 1 ≡ i = omega (arith, e) in
    let same : wait.corner ≡ v = ap (λ (x : Wait). x.corner) (is ∙ ap (wait_at ws) z) ∙ q in
    inl (λ due. subst (λ (u : ℕ). Contains new (turned (entry_in s u))) same (p.here (subst (IsDue t s) (sym same) due)))
walked t s old new ws n v wait is p (inr (later i e l r)) =
    let z : n - 1 ≡ i = omega (arith, e) in
    inr (subst (λ (x : Wait). WaitsFrom ws x.next v) (sym (is ∙ ap (wait_at ws) z)) r)
