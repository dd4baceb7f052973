-- The queue and the waits cover all corners under the threshold while corners are looked at and go.
use Rattle.std.proofs.Common.{◌≡◌, ◌≢◌, ℕ, ◌<◌, true, false, List, ◌∷◌, length, slice_index, slice_index_or, slice_set, length-set, get_or-set_other, Bool, refl, ap, sym, ◌∙◌, subst, ◌⊎◌, inl, inr, arith}
use Rattle.std.specs.BinaryHeap.{IsUpperBound}
use Rattle.std.specs.List.{Contains}
use Rattle.std.specs.List.Sorted.{IsPermutation}
use Rattle.std.specs.Ordering.{is_lt}
use Rattle.std.specs.declared.cmp.Reverse.{Reverse}
use Rattle.std.proofs.lemmas.Bool.{both_ways, cases_eq}
use Rattle.std.proofs.lemmas.List.{get_or_default}
use Rattle.std.proofs.lemmas.List.Elements.{All-contains, All-from_recursion}
use Rattle.std.proofs.lemmas.List.Sorted.{Contains-permutation, IsPermutation-sym}
use Rattle.geometry.specs.Units.{area_limit}
use Rattle.effective_area.proofs.HeapLaws.{contains_cases, contains_here, contains_later}
use Rattle.guarded_reduction.specs.declared.index.corner.Corner.{Corner}
use Rattle.guarded_reduction.specs.Indexes.{NoneMeets, is_left_at, point_at}
use Rattle.guarded_reduction.specs.Tests.{is_held_by}
use Rattle.guarded_reduction.proofs.Indexes.{left_before}
use Rattle.guarded_reduction.specs.declared.queue.entry.Entry.{Entry}
use Rattle.guarded_reduction.specs.Entries.{AreBelow, IsCurrent, IsDue, IsSound, entry_at, entry_in, turned, turned_cmp}
use Rattle.guarded_reduction.specs.Linking.{Linked, IsChained, IsCorner, IsWhole, corner_in, fixed_at, fixed_to, is_fixed, unlinked}
use Rattle.guarded_reduction.specs.Moves.{Counted, keeps_all}
use Rattle.guarded_reduction.specs.States.{HoldsByLink, IsFixing, IsHeld, IsNext, IsOtherEnd, IsQueued, Pushed, PushedAll, blocks}
use Rattle.guarded_reduction.specs.Waiting.{KeepsWaits, Waiting, WaitsOn}
use Rattle.guarded_reduction.proofs.Unlinking.{same_at}

-- ---- a place is waited on

pub still_held : (s : Linked) (old new : Waiting) (v : ℕ) → KeepsWaits old new → IsHeld s old v → IsHeld s new v
still_held s old new v k h = record { asked = h.asked; holder = h.holder; within = h.within; left = h.left; waits = k.has h.holder v h.waits; holds = on h.holds }
  where
    on : (is_held_by (corner_in s v) h.holder (point_at s.positions h.holder) ≡ true) ⊎ HoldsByLink s old v h.holder → (is_held_by (corner_in s v) h.holder (point_at s.positions h.holder) ≡ true) ⊎ HoldsByLink s new v h.holder
    on (inl e) = inl e
    on (inr l) = inr (record { end = l.end; joins = l.joins; waits = k.has l.end v l.waits })

-- ---- an entry is taken off the queue

module _ (t : ℕ) (s : Linked) (items new : List (Reverse Entry)) (w : Waiting) (e : Entry) (queued : IsQueued t s items w) (perm : IsPermutation items (turned e ∷ new)) where
  split : (d : Entry) → Contains items (turned d) → (d ≡ e) ⊎ Contains new (turned d)
  split d h = on (contains_cases (turned e) new (turned d) (Contains-permutation items (turned e ∷ new) (turned d) perm h))
    where
      on : (turned d ≡ turned e) ⊎ Contains new (turned d) → (d ≡ e) ⊎ Contains new (turned d)
      on (inl k) = inl (ap (λ (x : Reverse Entry). x.0) k)
      on (inr k) = inr k

  was : (d : Entry) → Contains new (turned d) → Contains items (turned d)
  was d h = Contains-permutation (turned e ∷ new) items (turned d) (IsPermutation-sym items (turned e ∷ new) perm) (contains_later (turned e) new (turned d) h)

  was_there : Contains items (turned e)
  was_there = Contains-permutation (turned e ∷ new) items (turned e) (IsPermutation-sym items (turned e ∷ new) perm) (contains_here (turned e) new)

  due_current : (v : ℕ) → IsDue t s v → IsCurrent s (entry_in s v)
  due_current v h = record { within = h.corner.within; left = h.corner.left; before = refl; after = refl; loose = h.loose }

  pub drop_stale : (IsCurrent s e → ⊥) → IsQueued t s new w
  drop_stale stale = record { covers = λ v h. on v h (queued.covers v h); sound = λ d h. queued.sound d (was d h); firsts = queued.firsts }
    where
      off : (v : ℕ) → IsDue t s v → (entry_in s v ≡ e) ⊎ Contains new (turned (entry_in s v)) → Contains new (turned (entry_in s v)) ⊎ IsHeld s w v
      off v h (inl q) = absurd (stale (subst (IsCurrent s) q (due_current v h)))
      off v h (inr k) = inl k

      on : (v : ℕ) → IsDue t s v → Contains items (turned (entry_in s v)) ⊎ IsHeld s w v → Contains new (turned (entry_in s v)) ⊎ IsHeld s w v
      on v h (inl k) = off v h (split (entry_in s v) k)
      on v h (inr k) = inr k

  pub come_to_wait : (more : Waiting) → KeepsWaits w more → IsHeld s more e.place → IsQueued t s new more
  come_to_wait more keeps held = record { covers = λ v h. on v (queued.covers v h); sound = λ d h. queued.sound d (was d h); firsts = keeps.same ∙ queued.firsts }
    where
      off : (v : ℕ) → (entry_in s v ≡ e) ⊎ Contains new (turned (entry_in s v)) → Contains new (turned (entry_in s v)) ⊎ IsHeld s more v
      off v (inl q) = inr (subst (IsHeld s more) (sym (ap (λ (x : Entry). x.place) q)) held)
      off v (inr k) = inl k

      on : (v : ℕ) → Contains items (turned (entry_in s v)) ⊎ IsHeld s w v → Contains new (turned (entry_in s v)) ⊎ IsHeld s more v
      on v (inl k) = off v (split (entry_in s v) k)
      on v (inr k) = inr (still_held s w more v keeps k)

  -- that of a corner that is held is of no more use
  pub drop_held : (v : ℕ) → e.place ≡ v → (v ≡ length s.positions) ⊎ IsHeld s w v → IsQueued t s new w
  drop_held v is (inl n) = drop_stale (λ c. let h : e.place < length s.positions = c.within in absurd (omega (arith, h, is, n)))
  drop_held v is (inr h) = come_to_wait w (record { same = refl; has = λ h v k. k }) (subst (IsHeld s w) (sym is) h)

  current_is : IsCurrent s e → e ≡ entry_in s e.place
  current_is c = (queued.sound e was_there).is ∙ ap (λ b. entry_at s.positions b e.place e.after) (sym c.before) ∙ ap (λ a. entry_at s.positions (slice_index s.befores e.place) e.place a) (sym c.after)

  current_due : IsCurrent s e → IsDue t s e.place
  current_due c =
      let h = queued.sound e was_there in
      record {
        corner = record { within = c.within; left = c.left; before = λ q. h.before (sym c.before ∙ q); after = λ q. h.after (sym c.after ∙ q) };
        under = subst (λ (x : Entry). x.area < t) (current_is c) h.under;
        loose = c.loose;
      }

  pub comes_next : IsUpperBound turned_cmp (turned e) items → IsCurrent s e → (s.no_crossings ≡ true → NoneMeets s.positions s.left (blocks s e.place)) → IsNext t s new w e
  comes_next upper c free = record {
    due = current_due c;
    is = current_is c;
    free = free;
    first = λ d h. All-contains (λ (y : Reverse Entry). is_lt (turned_cmp (turned e) y) ≡ false) items (turned d) (All-from_recursion (λ (y : Reverse Entry). is_lt (turned_cmp (turned e) y) ≡ false) items upper) (was d h);
    covers = λ v h. on v (queued.covers v h);
    sound = λ d h. queued.sound d (was d h);
    firsts = queued.firsts;
  }
    where
      off : (v : ℕ) → (entry_in s v ≡ e) ⊎ Contains new (turned (entry_in s v)) → (v ≡ e.place) ⊎ (Contains new (turned (entry_in s v)) ⊎ IsHeld s w v)
      off v (inl q) = inl (ap (λ (x : Entry). x.place) q)
      off v (inr k) = inr (inl k)

      on : (v : ℕ) → Contains items (turned (entry_in s v)) ⊎ IsHeld s w v → (v ≡ e.place) ⊎ (Contains new (turned (entry_in s v)) ⊎ IsHeld s w v)
      on v (inl k) = off v (split (entry_in s v) k)
      on v (inr k) = inr (inr k)

-- ---- a corner goes

module _ (t : ℕ) (s : Linked) (whole : IsWhole s) (chained : IsChained s) (z : ℕ) (corner : IsCorner s z) where
  abbrev next : Linked
  next = unlinked z s

  abbrev prior : ℕ
  prior = slice_index s.befores z

  abbrev follower : ℕ
  follower = slice_index s.afters z

  within : z < length s.left
  within = omega (arith, corner.within, whole.left)

  left_other : (h : ℕ) → h ≢ z → is_left_at s.left h ≡ true → is_left_at next.left h ≡ true
  left_other h n l = same_at s.left z h n ∙ l

  before_same : (v d : ℕ) → v ≢ follower → slice_index_or next.befores v d ≡ slice_index_or s.befores v d
  before_same v d n = get_or-set_other s.befores follower v prior d n

  after_same : (v d : ℕ) → v ≢ prior → slice_index_or next.afters v d ≡ slice_index_or s.afters v d
  after_same v d n = get_or-set_other s.afters prior v follower d n

  module _ (v : ℕ) (not_prior : v ≢ prior) (not_follower : v ≢ follower) where
    entry_same : entry_in next v ≡ entry_in s v
    entry_same = ap (λ b. entry_at s.positions b v (slice_index next.afters v)) (before_same v 0 not_follower) ∙ ap (λ a. entry_at s.positions (slice_index s.befores v) v a) (after_same v 0 not_prior)

    corner_same : corner_in next v ≡ corner_in s v
    corner_same = ap (λ b. corner_of b (slice_index next.afters v)) (before_same v 0 not_follower) ∙ ap (λ a. corner_of (slice_index s.befores v) a) (after_same v 0 not_prior)
      where
        corner_of : ℕ → ℕ → Corner
        corner_of b a = record { before = point_at s.positions b; at = point_at s.positions v; after = point_at s.positions a; place = v }

    corner_was : IsCorner next v → IsCorner s v
    corner_was h = record { within = h.within; left = (left_before s.left z v within h.left).1; before = λ e. h.before (before_same v 0 not_follower ∙ e); after = λ e. h.after (after_same v 0 not_prior ∙ e) }

    due_was : IsDue t next v → (v ≢ z) × IsDue t s v
    unfolding is_fixed
    due_was h =
        let r = left_before s.left z v within h.corner.left in (
          r.0,
          record {
            corner = record { within = h.corner.within; left = r.1; before = λ e. h.corner.before (before_same v 0 not_follower ∙ e); after = λ e. h.corner.after (after_same v 0 not_prior ∙ e) };
            under = subst (λ (x : Entry). x.area < t) entry_same h.under;
            loose = h.loose;
          },
        )

    -- what held it holds it still, or it waited on what goes
    held_or_woken : (w : Waiting) → IsHeld s w v → WaitsOn w z v ⊎ IsHeld next w v
    held_or_woken w h = on (cases_eq h.holder z)
      where
        before_read : slice_index_or s.befores h.holder v ≡ slice_index s.befores h.holder
        before_read = get_or_default s.befores h.holder v 0 (omega (arith, h.within, whole.befores))

        after_read : slice_index_or s.afters h.holder v ≡ slice_index s.afters h.holder
        after_read = get_or_default s.afters h.holder v 0 (omega (arith, h.within, whole.afters))

        beside : (y : ℕ) → y ≢ z → (slice_index_or s.befores h.holder v ≡ y) ⊎ (slice_index_or s.afters h.holder v ≡ y) → (slice_index_or next.befores h.holder v ≡ y) ⊎ (slice_index_or next.afters h.holder v ≡ y)
        beside y o (inl e) =
            let n : h.holder ≢ follower = λ q. o (sym e ∙ before_read ∙ ap (λ x. slice_index s.befores x) q ∙ (chained.after z corner.within corner.left corner.after).1) in
            inl (before_same h.holder v n ∙ e)
        beside y o (inr e) =
            let n : h.holder ≢ prior = λ q. o (sym e ∙ after_read ∙ ap (λ x. slice_index s.afters x) q ∙ (chained.before z corner.within corner.left corner.before).1) in
            inr (after_same h.holder v n ∙ e)

        across : h.holder ≢ z → (k : HoldsByLink s w v h.holder) → (k.end ≡ z) ⊎ (k.end ≢ z) → WaitsOn w z v ⊎ IsHeld next w v
        across n k (inl e) = inl (subst (λ y. WaitsOn w y v) e k.waits)
        across n k (inr o) =
            let j = subst (λ (q : Corner). IsOtherEnd s q h.holder k.end) (sym corner_same) k.joins in
            inr (record {
              asked = h.asked;
              holder = h.holder;
              within = h.within;
              left = left_other h.holder n h.left;
              waits = h.waits;
              holds = inr (record {
                end = k.end;
                joins = record { apart = j.apart; at = j.at; other = j.other; leads = j.leads; beside = beside k.end o k.joins.beside };
                waits = k.waits;
              });
            })

        by : h.holder ≢ z → (is_held_by (corner_in s v) h.holder (point_at s.positions h.holder) ≡ true) ⊎ HoldsByLink s w v h.holder → WaitsOn w z v ⊎ IsHeld next w v
        by n (inl k) = inr (record {
          asked = h.asked;
          holder = h.holder;
          within = h.within;
          left = left_other h.holder n h.left;
          waits = h.waits;
          holds = inl (subst (λ (q : Corner). is_held_by q h.holder (point_at s.positions h.holder) ≡ true) (sym corner_same) k);
        })
        by n (inr k) = across n k (cases_eq k.end z)

        on : (h.holder ≡ z) ⊎ (h.holder ≢ z) → WaitsOn w z v ⊎ IsHeld next w v
        on (inl e) = inl (subst (λ y. WaitsOn w y v) e h.waits)
        on (inr n) = by n h.holds

module _ (t : ℕ) (s : Linked) (whole : IsWhole s) (chained : IsChained s) (items first second last : List (Reverse Entry)) (w : Waiting) (e : Entry) (n : IsNext t s items w e)
    (p : Pushed t (unlinked e.place s) items first e.before) (q : Pushed t (unlinked e.place s) first second e.after) (r : PushedAll t (unlinked e.place s) second last w e.place) where
  later : (d : Entry) → Contains items (turned d) → Contains last (turned d)
  later d h = r.has d (q.has d (p.has d h))

  before_is : e.before ≡ slice_index s.befores e.place
  before_is = ap (λ (x : Entry). x.before) n.is

  after_is : e.after ≡ slice_index s.afters e.place
  after_is = ap (λ (x : Entry). x.after) n.is

  abbrev Covered : ℕ → Type 0
  Covered v = Contains last (turned (entry_in (unlinked e.place s) v)) ⊎ IsHeld (unlinked e.place s) w v

  first_sound : (d : Entry) → Contains items (turned d) ⊎ IsSound t s.positions d → IsSound t s.positions d
  first_sound d (inl k) = n.sound d k
  first_sound d (inr k) = k

  second_sound : (d : Entry) → Contains first (turned d) ⊎ IsSound t s.positions d → IsSound t s.positions d
  second_sound d (inl k) = first_sound d (p.only d k)
  second_sound d (inr k) = k

  last_sound : (d : Entry) → Contains second (turned d) ⊎ IsSound t s.positions d → IsSound t s.positions d
  last_sound d (inl k) = second_sound d (q.only d k)
  last_sound d (inr k) = k

  module _ (v : ℕ) (h : IsDue t (unlinked e.place s) v) where
    woken : WaitsOn w e.place v ⊎ IsHeld (unlinked e.place s) w v → Covered v
    woken (inl k) = inl (r.here v k h)
    woken (inr k) = inr k

    at_other : v ≢ slice_index s.befores e.place → v ≢ slice_index s.afters e.place → Covered v
    at_other a b = on (n.covers v (due_was t s whole chained e.place n.due.corner v a b h).1)
      where
        on : (v ≡ e.place) ⊎ (Contains items (turned (entry_in s v)) ⊎ IsHeld s w v) → Covered v
        on (inl k) = absurd ((due_was t s whole chained e.place n.due.corner v a b h).0 k)
        on (inr (inl k)) = inl (later (entry_in (unlinked e.place s) v) (subst (λ x. Contains items (turned x)) (sym (entry_same t s whole chained e.place n.due.corner v a b)) k))
        on (inr (inr k)) = woken (held_or_woken t s whole chained e.place n.due.corner v a b w k)

    at_follower : v ≢ e.before → (v ≡ e.after) ⊎ (v ≢ e.after) → Covered v
    at_follower a (inl k) = inl (r.has (entry_in (unlinked e.place s) v) (subst (λ u. Contains second (turned (entry_in (unlinked e.place s) u))) (sym k) (q.here (subst (IsDue t (unlinked e.place s)) k h))))
    at_follower a (inr b) = at_other (λ k. a (k ∙ sym before_is)) (λ k. b (k ∙ sym after_is))

    at_prior : (v ≡ e.before) ⊎ (v ≢ e.before) → Covered v
    at_prior (inl k) = inl (r.has (entry_in (unlinked e.place s) v) (q.has (entry_in (unlinked e.place s) v) (subst (λ u. Contains first (turned (entry_in (unlinked e.place s) u))) (sym k) (p.here (subst (IsDue t (unlinked e.place s)) k h)))))
    at_prior (inr a) = at_follower a (cases_eq v e.after)

  below_still : AreBelow s → AreBelow (unlinked e.place s)
  below_still h v k = at_before (cases_eq v e.before)
    where
      at_neither : v ≢ e.before → v ≢ e.after → (entry_in (unlinked e.place s) v).area < area_limit
      at_neither a b =
          let x : v ≢ slice_index s.befores e.place = λ i. a (i ∙ sym before_is) in
          let y : v ≢ slice_index s.afters e.place = λ i. b (i ∙ sym after_is) in
          subst (λ (d : Entry). d.area < area_limit) (sym (entry_same t s whole chained e.place n.due.corner v x y)) (h v (corner_was t s whole chained e.place n.due.corner v x y k))

      at_after : v ≢ e.before → (v ≡ e.after) ⊎ (v ≢ e.after) → (entry_in (unlinked e.place s) v).area < area_limit
      at_after a (inl i) = subst (λ u. (entry_in (unlinked e.place s) u).area < area_limit) (sym i) (q.below (subst (IsCorner (unlinked e.place s)) i k))
      at_after a (inr b) = at_neither a b

      at_before : (v ≡ e.before) ⊎ (v ≢ e.before) → (entry_in (unlinked e.place s) v).area < area_limit
      at_before (inl i) = subst (λ u. (entry_in (unlinked e.place s) u).area < area_limit) (sym i) (p.below (subst (IsCorner (unlinked e.place s)) i k))
      at_before (inr a) = at_after a (cases_eq v e.after)

  taken_out : IsQueued t (unlinked e.place s) last w
  taken_out = record { covers = λ v h. at_prior v h (cases_eq v e.before); sound = λ d h. last_sound d (r.only d h); firsts = n.firsts }

-- where the places are those without the entry's
pub taken_out_to : (t : ℕ) (s after : Linked) → IsWhole s → IsChained s → (items first second last : List (Reverse Entry)) (w : Waiting) (e : Entry) → IsNext t s items w e → after ≡ unlinked e.place s →
    Pushed t after items first e.before → Pushed t after first second e.after → PushedAll t after second last w e.place → IsQueued t after last w
taken_out_to t s after whole chained items first second last w e n is =
    subst (λ (x : Linked). Pushed t x items first e.before → Pushed t x first second e.after → PushedAll t x second last w e.place → IsQueued t x last w) (sym is)
    (λ p q r. taken_out t s whole chained items first second last w e n p q r)

pub below_to : (t : ℕ) (s after : Linked) → IsWhole s → IsChained s → (items first second last : List (Reverse Entry)) (w : Waiting) (e : Entry) → IsNext t s items w e → after ≡ unlinked e.place s →
    Pushed t after items first e.before → Pushed t after first second e.after → PushedAll t after second last w e.place → AreBelow s → AreBelow after
below_to t s after whole chained items first second last w e n is =
    subst (λ (x : Linked). Pushed t x items first e.before → Pushed t x first second e.after → PushedAll t x second last w e.place → AreBelow s → AreBelow x) (sym is)
    (λ p q r. below_still t s whole chained items first second last w e n p q r)

-- ---- a place stays for good

pub fixed_elsewhere : (s : Linked) (z v : ℕ) → v ≢ z → is_fixed (fixed_at z s) v ≡ is_fixed s v
unfolding is_fixed
fixed_elsewhere s z v n = get_or-set_other s.fixed z v true false n

-- what held a corner holds it still
still_held_fixed : (s : Linked) (fs : List Bool) (w : Waiting) (v : ℕ) → IsHeld s w v → IsHeld (fixed_to fs s) w v
still_held_fixed s fs w v h = record { asked = h.asked; holder = h.holder; within = h.within; left = h.left; waits = h.waits; holds = on h.holds }
  where
    on : (is_held_by (corner_in s v) h.holder (point_at s.positions h.holder) ≡ true) ⊎ HoldsByLink s w v h.holder →
        (is_held_by (corner_in (fixed_to fs s) v) h.holder (point_at s.positions h.holder) ≡ true) ⊎ HoldsByLink (fixed_to fs s) w v h.holder
    on (inl e) = inl e
    on (inr l) = inr (record {
      end = l.end;
      joins = record { apart = l.joins.apart; at = l.joins.at; other = l.joins.other; leads = l.joins.leads; beside = l.joins.beside };
      waits = l.waits;
    })

-- the corner that would go next is done with when its place stays for good
pub next_fixed : (t : ℕ) (s : Linked) (items : List (Reverse Entry)) (w : Waiting) (e : Entry) → is_fixed (fixed_at e.place s) e.place ≡ true → IsNext t s items w e → IsQueued t (fixed_at e.place s) items w
next_fixed t s items w e there n = record { covers = λ v h. covered v h (cases_eq v e.place); sound = n.sound; firsts = n.firsts }
  where
    on : (v : ℕ) → v ≢ e.place → (v ≡ e.place) ⊎ (Contains items (turned (entry_in s v)) ⊎ IsHeld s w v) → Contains items (turned (entry_in s v)) ⊎ IsHeld (fixed_at e.place s) w v
    on v o (inl k) = absurd (o k)
    on v o (inr (inl k)) = inl k
    on v o (inr (inr k)) = inr (still_held_fixed s (slice_set s.fixed e.place true) w v k)

    covered : (v : ℕ) → IsDue t (fixed_at e.place s) v → (v ≡ e.place) ⊎ (v ≢ e.place) → Contains items (turned (entry_in s v)) ⊎ IsHeld (fixed_at e.place s) w v
    covered v h (inl k) = absurd (both_ways (is_fixed (fixed_at e.place s) v) h.loose (ap (is_fixed (fixed_at e.place s)) k ∙ there))
    covered v h (inr o) = on v o (n.covers v (record {
      corner = record { within = h.corner.within; left = h.corner.left; before = h.corner.before; after = h.corner.after };
      under = h.under;
      loose = sym (fixed_elsewhere s e.place v o) ∙ h.loose;
    }))

-- the places that stay don't count
keeps_same : (s : Linked) (fs : List Bool) (z : ℕ) (g : Counted) → keeps_all (fixed_to fs s) z g ≡ keeps_all s z g
unfolding keeps_all
keeps_same s fs z g = refl

pub one_fixed : (old s : Linked) (g : Counted) (z : ℕ) → IsFixing old g s → IsCorner s z → keeps_all s z g ≡ false → IsFixing old g (fixed_at z s)
one_fixed old s g z f corner e = record {
  same = ap (fixed_to (slice_set s.fixed z true)) f.same;
  many = length-set s.fixed z true ∙ f.many;
  fixed = λ v h. on v h (cases_eq v z);
}
  where
    was_corner : IsCorner (fixed_to s.fixed old) z → IsCorner old z
    was_corner k = record { within = k.within; left = k.left; before = k.before; after = k.after }

    on : (v : ℕ) → is_fixed (fixed_at z s) v ≡ true → (v ≡ z) ⊎ (v ≢ z) → (is_fixed old v ≡ true) ⊎ (IsCorner old v × (keeps_all old v g ≡ false))
    on v h (inl k) = inr (subst (λ y. IsCorner old y × (keeps_all old y g ≡ false)) (sym k)
        (was_corner (subst (λ (x : Linked). IsCorner x z) f.same corner), sym (keeps_same old s.fixed z g) ∙ ap (λ (x : Linked). keeps_all x z g) (sym f.same) ∙ e))
    on v h (inr n) = f.fixed v (sym (fixed_elsewhere s z v n) ∙ h)

-- first some places stay for good, then more
pub fixed_more : (old s new : Linked) (g : Counted) → IsFixing old g s → IsFixing s g new → IsFixing old g new
fixed_more old s new g f k = record {
  same = k.same ∙ ap (fixed_to new.fixed) f.same;
  many = k.many ∙ f.many;
  fixed = λ v h. on v (k.fixed v h);
}
  where
    was_corner : (v : ℕ) → IsCorner (fixed_to s.fixed old) v → IsCorner old v
    was_corner v c = record { within = c.within; left = c.left; before = c.before; after = c.after }

    on : (v : ℕ) → (is_fixed s v ≡ true) ⊎ (IsCorner s v × (keeps_all s v g ≡ false)) → (is_fixed old v ≡ true) ⊎ (IsCorner old v × (keeps_all old v g ≡ false))
    on v (inl h) = f.fixed v h
    on v (inr h) = inr (was_corner v (subst (λ (x : Linked). IsCorner x v) f.same h.0), sym (keeps_same old s.fixed v g) ∙ ap (λ (x : Linked). keeps_all x v g) (sym f.same) ∙ h.1)

-- as many places have an owner as before
pub owners_still : (old s : Linked) (g : Counted) → IsFixing old g s → (length g.rings ≡ 0) ⊎ (length g.owners ≡ length old.positions) → (length g.rings ≡ 0) ⊎ (length g.owners ≡ length s.positions)
owners_still old s g f h = subst (λ (x : Linked). (length g.rings ≡ 0) ⊎ (length g.owners ≡ length x.positions)) (sym f.same) h

-- places that stay for good change no neighbours
pub chained_fixed : (old s : Linked) (g : Counted) → IsFixing old g s → IsChained old → IsChained s
chained_fixed old s g f k = subst IsChained (sym f.same) (record { before = k.before; after = k.after })
