-- Lists of waits.
use Rattle.std.proofs.Common.{◌≡◌, ◌≢◌, ℕ, ◌+◌, ◌<◌, ◌≤◌, List, [], ◌∷◌, ◌++◌, length, slice_index, slice_index_or, slice_set, length-append, length-set, replicate, get_or-set_same, get_or-set_other, refl, ap, sym, ◌∙◌, subst, ◌⊎◌, inl, inr, arith}
use Rattle.std.proofs.lemmas.Bool.{cases_eq, cases_lt}
use Rattle.std.proofs.lemmas.List.{get_or_append_left, get_or_past, get_or_push, get_or_default, get_or-replicate, length-replicate}
use Rattle.guarded_reduction.specs.declared.queue.waiting_lists.Wait.{Wait}
use Rattle.guarded_reduction.specs.Waiting.{Waiting, WaitsFrom, here, later, WaitsOn, IsFalling, KeepsWaits, no_wait, wait_at}

abbrev pub wait_of : ℕ → ℕ → Wait
wait_of v n = record { corner = v; next = n }

abbrev pub waiting_of : List ℕ → List Wait → Waiting
waiting_of fs ws = record { firsts = fs; waits = ws }

at_left : (ws : List Wait) (w : Wait) (i : ℕ) → i < length ws → wait_at (ws ++ (w ∷ [])) i ≡ wait_at ws i
unfolding wait_at
at_left ws w i h = get_or_append_left ws (w ∷ []) no_wait i h

at_end : (ws : List Wait) (w : Wait) → wait_at (ws ++ (w ∷ [])) (length ws) ≡ w
unfolding wait_at
at_end ws w = get_or_push ws w no_wait (length ws) refl

longer : (ws : List Wait) (w : Wait) → length (ws ++ (w ∷ [])) ≡ length ws + 1
longer ws w = length-append ws (w ∷ [])

still : (ws : List Wait) (w : Wait) (n v : ℕ) → WaitsFrom ws n v → WaitsFrom (ws ++ (w ∷ [])) n v
still ws w n v (here i e l q) = here i e (omega (arith, l, longer ws w)) (ap (λ (x : Wait). x.corner) (at_left ws w i l) ∙ q)
still ws w n v (later i e l r) = later i e (omega (arith, l, longer ws w)) (subst (λ (x : Wait). WaitsFrom (ws ++ (w ∷ [])) x.next v) (sym (at_left ws w i l)) (still ws w (wait_at ws i).next v r))

module _ (fs : List ℕ) (ws : List Wait) (h v n : ℕ) (within : h < length fs) (is : n ≡ length ws + 1) where
  abbrev new_waits : List Wait
  new_waits = ws ++ (wait_of v (slice_index fs h) ∷ [])

  abbrev new_firsts : List ℕ
  new_firsts = slice_set fs h n

  here_first : slice_index new_firsts h ≡ n
  here_first = get_or-set_same fs h n 0 within

  other_first : (g : ℕ) → g ≢ h → slice_index new_firsts g ≡ slice_index fs g
  other_first g e = get_or-set_other fs h g n 0 e

  end_within : length ws < length new_waits
  end_within = omega (arith, longer ws (wait_of v (slice_index fs h)))

  pub keeps : KeepsWaits (waiting_of fs ws) (waiting_of new_firsts new_waits)
  keeps = record { same = length-set fs h n; has = λ g u k. on g u k (cases_eq g h) }
    where
      on : (g u : ℕ) → WaitsFrom ws (slice_index fs g) u → (g ≡ h) ⊎ (g ≢ h) → WaitsFrom new_waits (slice_index new_firsts g) u
      on g u k (inl e) =
          let next : (wait_at new_waits (length ws)).next ≡ slice_index fs g = ap (λ (x : Wait). x.next) (at_end ws (wait_of v (slice_index fs h))) ∙ ap (λ (m : ℕ). slice_index fs m) (sym e) in
          later (length ws) (ap (λ (m : ℕ). slice_index new_firsts m) e ∙ here_first ∙ is) end_within
          (subst (λ (m : ℕ). WaitsFrom new_waits m u) (sym next) (still ws (wait_of v (slice_index fs h)) (slice_index fs g) u k))
      on g u k (inr e) = subst (λ (m : ℕ). WaitsFrom new_waits m u) (sym (other_first g e)) (still ws (wait_of v (slice_index fs h)) (slice_index fs g) u k)

  pub waits_now : WaitsOn (waiting_of new_firsts new_waits) h v
  waits_now = here (length ws) (here_first ∙ is) end_within (ap (λ (x : Wait). x.corner) (at_end ws (wait_of v (slice_index fs h))))

  pub falls_still : IsFalling (waiting_of fs ws) → IsFalling (waiting_of new_firsts new_waits)
  falls_still f = record { first = λ g. on g (cases_eq g h); next = λ i l. by i l (cases_lt i (length ws)) }
    where
      on : (g : ℕ) → (g ≡ h) ⊎ (g ≢ h) → slice_index new_firsts g ≤ length new_waits
      on g (inl e) = omega (arith, ap (λ (m : ℕ). slice_index new_firsts m) e, here_first, is, longer ws (wait_of v (slice_index fs h)))
      on g (inr e) = omega (arith, other_first g e, f.first g, longer ws (wait_of v (slice_index fs h)))

      by : (i : ℕ) → i < length new_waits → (i < length ws) ⊎ (length ws ≤ i) → (wait_at new_waits i).next ≤ i
      by i l (inl k) = omega (arith, f.next i k, ap (λ (x : Wait). x.next) (at_left ws (wait_of v (slice_index fs h)) i k))
      by i l (inr k) =
          let e : i ≡ length ws = omega (arith, k, l, longer ws (wait_of v (slice_index fs h))) in
          omega (arith, f.first h, e, ap (λ (m : ℕ). (wait_at new_waits m).next) e, ap (λ (x : Wait). x.next) (at_end ws (wait_of v (slice_index fs h))))

-- where nothing waits
pub none_falls : (fs : List ℕ) (ws : List Wait) (n : ℕ) → fs ≡ replicate n 0 → ws ≡ [] → IsFalling (waiting_of fs ws)
none_falls fs ws n e f = record { first = λ h. on h (cases_lt h n); next = λ i l. absurd (omega (arith, l, ap (λ (ws : List Wait). length ws) f)) }
  where
    on : (h : ℕ) → (h < n) ⊎ (n ≤ h) → slice_index fs h ≤ length ws
    on h (inl l) = omega (arith, ap (λ (xs : List ℕ). slice_index xs h) e, get_or-replicate {A = ℕ} n h 0 0 l)
    on h (inr l) = omega (arith, ap (λ (xs : List ℕ). slice_index xs h) e, get_or_past {X = ℕ} (replicate n 0) h 0 (omega (arith, l, length-replicate {A = ℕ} n 0)))

-- the wait that was read
pub wait_is : (ws : List Wait) (i : ℕ) (w : Wait) → i < length ws → w ≡ slice_index_or ws i w → w ≡ wait_at ws i
unfolding wait_at
wait_is ws i w h e = e ∙ get_or_default ws i w no_wait h

-- ---- one is added

module _ (fs : List ℕ) (ws more : List Wait) (h v first n : ℕ) (within : h < length fs) (begins : first ≡ slice_index_or fs h first) (is : more ≡ ws ++ (wait_of v first ∷ [])) (many : n ≡ length more) where
  begins_at : first ≡ slice_index fs h
  begins_at = begins ∙ get_or_default fs h first 0 within

  same_waits : ws ++ (wait_of v (slice_index fs h) ∷ []) ≡ more
  same_waits = ap (λ (m : ℕ). ws ++ (wait_of v m ∷ [])) (sym begins_at) ∙ sym is

  so_many : n ≡ length ws + 1
  so_many = many ∙ ap (λ (l : List Wait). length l) is ∙ longer ws (wait_of v first)

  pub added_keeps : KeepsWaits (waiting_of fs ws) (waiting_of (slice_set fs h n) more)
  added_keeps = subst (λ (l : List Wait). KeepsWaits (waiting_of fs ws) (waiting_of (slice_set fs h n) l)) same_waits (keeps fs ws h v n within so_many)

  pub added_waits : WaitsOn (waiting_of (slice_set fs h n) more) h v
  added_waits = subst (λ (l : List Wait). WaitsOn (waiting_of (slice_set fs h n) l) h v) same_waits (waits_now fs ws h v n within so_many)

  pub added_falls : IsFalling (waiting_of fs ws) → IsFalling (waiting_of (slice_set fs h n) more)
  added_falls f = subst (λ (l : List Wait). IsFalling (waiting_of (slice_set fs h n) l)) same_waits (falls_still fs ws h v n within so_many f)
