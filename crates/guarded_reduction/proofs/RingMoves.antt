-- Which rings an arc's moves are counted in.
use Rattle.std.proofs.Common.{◌≡◌, ◌≢◌, ℕ, zero, suc, ℤ, ◌+◌, ◌-◌, ◌<◌, ◌≤◌, ◌==◌, Bool, true, false, not, ◌||◌, ◌&&◌, nat_le, List, [], ◌∷◌, get_or, length, length-append, map, replicate, slice_index, slice_index_or, slice_set, length-set, get_or-set_same, get_or-set_other, refl, ap, sym, ◌∙◌, subst, ◌⊎◌, inl, inr, arith}
use Rattle.std.specs.List.{AllByRecursion, list_all}
use Rattle.std.proofs.lemmas.Bool.{and_parts, both_ways, cases_Bool, cases_lt, or_cases, or_parts, eqb-true}
use Rattle.std.proofs.lemmas.Bool.Decides.{nat_tests}
use Rattle.std.proofs.lemmas.List.{get_or_append_left, get_or-append_right, get_or-replicate, length-map, length-replicate, set-get_or, nil_from_length}
use Rattle.geometry.specs.Joins.{AreInRange, Meet, arc_at, number_of}
use Rattle.geometry.specs.Points.{Point}
use Rattle.guarded_meaning.specs.Guards.{is_long, uses}
use Rattle.guarded_reduction.specs.Linking.{Linked}
use Rattle.guarded_reduction.specs.Moves.{AreUsers, Counted, IsReady, counted_without, keeps_all, lost_at, moves, moves_without, owner_at, owners_of, ring_at, ring_moves, stays}
use Rattle.guarded_reduction.proofs.Moves.{long_is}
use Rattle.guarded_reduction.proofs.Users.{read}

-- ---- one ring

test_other : (m n : ℕ) → (m == n) ≡ false → m ≢ n
test_other m n e = grind (arith, nat_tests)

-- a ring that doesn't use an arc moves on as before
same_moves : (ms : List ℕ) (k v : ℕ) (refs : List ℤ) → uses k refs ≡ false → ring_moves (slice_set ms k v) refs ≡ ring_moves ms refs
same_moves ms k v [] h = refl
same_moves ms k v (r ∷ refs) h =
    let p = or_parts (number_of r == k) (uses k refs) h in
    let e = get_or-set_other ms k (number_of r) v 0 (test_other (number_of r) k p.0) in
    let f = same_moves ms k v refs p.1 in
    omega (arith, e, f)

-- one that uses it moves on as often at least
moves_along : (ms : List ℕ) (k v : ℕ) (refs : List ℤ) → k < length ms → uses k refs ≡ true → v ≤ ring_moves (slice_set ms k v) refs
moves_along ms k v [] w h = absurd (both_ways false refl h)
moves_along ms k v (r ∷ refs) w h = on (or_cases (number_of r == k) (uses k refs) h) (moves_along ms k v refs w)
  where
    on : ((number_of r == k) ≡ true) ⊎ (uses k refs ≡ true) → (uses k refs ≡ true → v ≤ ring_moves (slice_set ms k v) refs) → v ≤ ring_moves (slice_set ms k v) (r ∷ refs)
    on (inl e) g = let f = ap (λ n. slice_index_or (slice_set ms k v) n 0) (eqb-true (number_of r) k e) ∙ get_or-set_same ms k v 0 w in omega (arith, f)
    on (inr u) g = let f = g u in omega (arith, f)

enough : (n m : ℕ) → 3 ≤ n → n ≤ m → nat_le 3 m ≡ true
enough n m h k = grind (arith, nat_tests)

still_stays : (ms : List ℕ) (k v : ℕ) (refs : List ℤ) → uses k refs ≡ false → stays (slice_set ms k v) refs ≡ stays ms refs
unfolding stays
still_stays ms k v refs h = ap (nat_le 3) (same_moves ms k v refs h)

stays_by_one : (ms : List ℕ) (k v : ℕ) (refs : List ℤ) → k < length ms → 3 ≤ v → uses k refs ≡ true → stays (slice_set ms k v) refs ≡ true
unfolding stays
stays_by_one ms k v refs w l h = enough v (ring_moves (slice_set ms k v) refs) l (moves_along ms k v refs w h)

-- ---- all rings

abbrev asks : ℕ → List ℕ → List ℤ → Bool
asks k ms refs = not (uses k refs) || stays ms refs

passes_by : (a b : Bool) → (a ≡ true → b ≡ true) → (not a || b) ≡ true
passes_by true b h = h refl
passes_by false b h = refl

all_pass : {X : Type 0} (p : X → Bool) (xs : List X) (d : X) → ((i : ℕ) → i < length xs → p (slice_index_or xs i d) ≡ true) → list_all p xs ≡ true
all_pass p [] d h = refl
all_pass p (x ∷ xs) d h =
    ap (λ b. b && list_all p xs) (h 0 (omega arith)) ∙ all_pass p xs d (λ i l. h (suc i) (omega (arith, l)))

each_passes : {X : Type 0} (p : X → Bool) (xs : List X) (d : X) (i : ℕ) → i < length xs → list_all p xs ≡ true → p (slice_index_or xs i d) ≡ true
each_passes p [] d i l h = absurd (omega (arith, l))
each_passes p (x ∷ xs) d zero l h = (and_parts (p x) (list_all p xs) h).0
each_passes p (x ∷ xs) d (suc i) l h = each_passes p xs d i (omega (arith, l)) (and_parts (p x) (list_all p xs) h).1

each_stays : (ms : List ℕ) (rings : List (List ℤ)) (j : ℕ) → j < length rings → AllByRecursion (λ refs. stays ms refs ≡ true) rings → stays ms (ring_at rings j) ≡ true
each_stays ms [] j l h = absurd (omega (arith, l))
each_stays ms (refs ∷ rings) zero l h = h.0
each_stays ms (refs ∷ rings) (suc j) l h = each_stays ms rings j (omega (arith, l)) h.1

abbrev pub counted_of : List (List ℤ) → List ℕ → List ℕ → List (List ℕ) → Counted
counted_of rings os ms us = record { rings = rings; owners = os; moves = ms; users = us }

-- where there is no ring, none goes, and nothing is counted
pub keeps_none : (s : Linked) (z : ℕ) (g : Counted) → length g.rings ≡ 0 → keeps_all s z g ≡ true
unfolding keeps_all
keeps_none s z g e = ap (list_all (λ refs. asks (owner_at g z) (moves_without s z g) refs)) (nil_from_length g.rings e)

-- what was read of the lists
pub record IsRead (s : Linked) (z : ℕ) (g : Counted) (k m n : ℕ) : Type 0 where
  pub within : owner_at g z < length g.moves
  pub arc : k ≡ owner_at g z
  pub moves : m ≡ slice_index g.moves (owner_at g z)
  pub left : n ≡ slice_index g.moves (owner_at g z) - lost_at s z

pub is_read : (s : Linked) (z : ℕ) (g : Counted) (arc ms lost left : ℕ) → IsReady g → z < length g.owners → arc ≡ get_or g.owners z arc → ms ≡ get_or g.moves arc ms → lost ≡ lost_at s z → left ≡ ms - lost → IsRead s z g arc ms left
is_read s z g arc ms lost left ready h a m l n =
    let a_is : arc ≡ owner_at g z = read g.owners z arc h a in
    let w = ready.owner z h in
    let m_is : ms ≡ slice_index g.moves (owner_at g z) = read g.moves arc ms (omega (arith, w, a_is)) m ∙ ap (slice_index g.moves) a_is in
    record { within = w; arc = a_is; moves = m_is; left = omega (arith, n, m_is, l) }

-- all that use the arc stay
pub keeps_is : (s : Linked) (z : ℕ) (g : Counted) (k left : ℕ) → k ≡ owner_at g z → left ≡ slice_index g.moves (owner_at g z) - lost_at s z → list_all (λ refs. not (uses k refs) || stays (slice_set g.moves k left) refs) g.rings ≡ keeps_all s z g
unfolding keeps_all
keeps_is s z g k left k_is left_is =
    ap (λ i. list_all (λ refs. not (uses i refs) || stays (slice_set g.moves i left) refs) g.rings) k_is
    ∙ ap (λ n. list_all (λ refs. not (uses (owner_at g z) refs) || stays (slice_set g.moves (owner_at g z) n) refs) g.rings) left_is

module _ (s : Linked) (z : ℕ) (g : Counted) (ready : IsReady g) (within : owner_at g z < length g.moves) where
  abbrev arc : ℕ
  arc = owner_at g z

  abbrev after : ℕ
  after = slice_index g.moves arc - lost_at s z

  abbrev new : List ℕ
  new = slice_set g.moves arc after

  was : (j : ℕ) → j < length g.rings → stays g.moves (ring_at g.rings j) ≡ true
  was j l = each_stays g.moves g.rings j l ready.stay

  -- nothing is lost
  pub keeps_unchanged : after ≡ slice_index g.moves arc → keeps_all s z g ≡ true
  unfolding keeps_all
  keeps_unchanged e = all_pass (asks arc new) g.rings [] (λ j l. passes_by (uses arc (ring_at g.rings j)) (stays new (ring_at g.rings j)) (λ _. ap (λ ms. stays ms (ring_at g.rings j)) same ∙ was j l))
    where
      same : new ≡ g.moves
      same = ap (slice_set g.moves arc) e ∙ set-get_or g.moves arc 0

  -- the arc is enough by itself
  pub keeps_by_one : 3 ≤ after → keeps_all s z g ≡ true
  unfolding keeps_all
  keeps_by_one e = all_pass (asks arc new) g.rings [] (λ j l. passes_by (uses arc (ring_at g.rings j)) (stays new (ring_at g.rings j)) (stays_by_one g.moves arc after (ring_at g.rings j) within e))

  -- what is counted without the place is as it has to be
  pub still_ready : keeps_all s z g ≡ true → IsReady (counted_without s z g)
  unfolding keeps_all
  still_ready h = record {
    in_range = subst (λ (n : ℕ). AllByRecursion (AreInRange n) g.rings) (sym (length-set g.moves arc after)) ready.in_range;
    owner = λ y l. let k = ready.owner y l in omega (arith, k, length-set g.moves arc after);
    many = ready.many ∙ sym (length-set g.moves arc after);
    none = λ e. ap (λ ms. slice_set ms arc after) (ready.none e);
    users = ready.users;
    stay = all_at_once g.rings (λ j l. stay_at j l (cases_Bool (uses arc (ring_at g.rings j))));
  }
    where
      stay_at : (j : ℕ) → j < length g.rings → (uses arc (ring_at g.rings j) ≡ true) ⊎ (uses arc (ring_at g.rings j) ≡ false) → stays new (ring_at g.rings j) ≡ true
      stay_at j l (inl u) = sym (ap (λ b. not b || stays new (ring_at g.rings j)) u) ∙ each_passes (asks arc new) g.rings [] j l h
      stay_at j l (inr u) = still_stays g.moves arc after (ring_at g.rings j) u ∙ was j l

      all_at_once : (rings : List (List ℤ)) → ((j : ℕ) → j < length rings → stays new (ring_at rings j) ≡ true) → AllByRecursion (λ refs. stays new refs ≡ true) rings
      all_at_once [] f = tt
      all_at_once (refs ∷ rings) f = (f 0 (omega arith), all_at_once rings (λ j l. f (suc j) (omega (arith, l))))

-- ---- at first

owners_within : (k : ℕ) (arcs : List (List Point)) (z : ℕ) → z < length (owners_of k arcs) → slice_index (owners_of k arcs) z < k + length arcs
owners_within k [] z h = absurd (omega (arith, h))
owners_within k (ps ∷ arcs) z h = on (cases_lt z (length ps)) (owners_within (suc k) arcs (z - length ps))
  where
    on : (z < length ps) ⊎ (length ps ≤ z) → (z - length ps < length (owners_of (suc k) arcs) → slice_index (owners_of (suc k) arcs) (z - length ps) < suc k + length arcs) → slice_index (owners_of k (ps ∷ arcs)) z < k + length (ps ∷ arcs)
    on (inl l) f =
        let e = get_or_append_left (replicate (length ps) k) (owners_of (suc k) arcs) 0 z (omega (arith, l, length-replicate (length ps) k)) ∙ get_or-replicate (length ps) z k 0 l in
        omega (arith, e)
    on (inr l) f =
        let e = get_or-append_right (replicate (length ps) k) (owners_of (suc k) arcs) (length ps) z 0 (length-replicate (length ps) k) l in
        let w = f (omega (arith, h, l, length-append (replicate (length ps) k) (owners_of (suc k) arcs), length-replicate (length ps) k)) in
        omega (arith, e, w)

all_long : (arcs : List (List Point)) (rings : List (List ℤ)) → AllByRecursion (λ refs. Meet (map (arc_at arcs) refs)) rings → AllByRecursion (λ refs. is_long arcs refs ≡ true) rings → AllByRecursion (λ refs. stays (map moves arcs) refs ≡ true) rings
all_long arcs [] m h = tt
all_long arcs (refs ∷ rings) m h = (sym (long_is arcs refs m.0) ∙ h.0, all_long arcs rings m.1 h.1)

pub first_ready : (arcs : List (List Point)) (rings : List (List ℤ)) (os ms : List ℕ) (us : List (List ℕ)) → (length rings ≡ 0 → ⊥) → os ≡ owners_of 0 arcs → ms ≡ map moves arcs → length us ≡ length arcs → AreUsers (length rings) rings us →
    AllByRecursion (AreInRange (length arcs)) rings → AllByRecursion (λ refs. Meet (map (arc_at arcs) refs)) rings → AllByRecursion (λ refs. is_long arcs refs ≡ true) rings → IsReady (counted_of rings os ms us)
first_ready arcs rings os ms us some o m many users in_range meet long = record {
  in_range = subst (λ n. AllByRecursion (AreInRange n) rings) (sym as_many) in_range;
  owner = λ z l. let w = owners_within 0 arcs z (omega (arith, l, ap length o)) in omega (arith, w, ap (λ ns. slice_index ns z) o, as_many);
  many = many ∙ sym as_many;
  none = λ e. absurd (some e);
  users = users;
  stay = subst (λ ns. AllByRecursion (λ refs. stays ns refs ≡ true) rings) (sym m) (all_long arcs rings meet long);
}
  where
    as_many : length ms ≡ length arcs
    as_many = ap length m ∙ length-map arcs moves
