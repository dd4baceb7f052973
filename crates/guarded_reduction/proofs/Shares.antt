-- The threshold of a share is the greatest area of as many of the first corners that go as have to be weighed.
use Rattle.std.proofs.Common.{◌≡◌, ◌∙◌, ℕ, zero, suc, ◌+◌, ◌-◌, ◌*◌, ◌<◌, ◌≤◌, max, Bool, cond, nat_lt, true, false, List, [], ◌∷◌, ◌++◌, length, map, drop, get_or, slice_set, length-set, length-append, Option, None, Some, ◌⊎◌, inl, inr, refl, ap, arith, subst, sym}
use Rattle.std.specs.List.{AllByRecursion}
use Rattle.std.proofs.lemmas.Bool.{and_parts, and_from, and_left, and_right, both_ways, cases_lt, false_from_ne_true, le-ltb, lt-ltb, ltb-true}
use Rattle.std.proofs.lemmas.List.{length-map, set_past}
use Rattle.std.proofs.lemmas.List.Sums.{sum_by-cons}
use Rattle.std.proofs.lemmas.Nat.{mul-le}
use Rattle.owned_values.proofs.Elements.{all_weaker, each_of}
use Rattle.owned_values.proofs.Lists.{drop_here}
use Rattle.geometry.specs.Lists.{In, all_but_last_of, interior, joined}
use Rattle.geometry.specs.Points.{Point}
use Rattle.effective_area.specs.Capped.{IsEnough}
use Rattle.elimination_meaning.specs.Elimination.{Vertex, numbered, without}
use Rattle.elimination_meaning.specs.Weights.{is_kept_at}
use Rattle.elimination_meaning.proofs.Weights.{over_test, under_test}
use Rattle.guarded_meaning.specs.Arcs.{ArcCorner, all_corners, arc_corners, left_by, points_of, HasOwnIndexes}
use Rattle.guarded_meaning.specs.Elimination.{Guard, eliminate_arcs, goes, goes_before, next_arcs, next_corner, reduced_arcs, remaining_arcs}
use Rattle.guarded_meaning.specs.Shares.{IsGreatestShare, chosen, count_kept, known, share}
use Rattle.guarded_meaning.specs.Weights.{interior_count, interior_weights}
use Rattle.guarded_meaning.proofs.First.{next_is, next_law, no_next_law, none_is_next}
use Rattle.guarded_meaning.proofs.Interiors.{counted_by_weight, weights_count}
use Rattle.guarded_meaning.proofs.Kept.{eliminate_keeps, points_numbered}
use Rattle.guarded_meaning.proofs.Removal.{IsTaken, all_numbered_own, all_taken, first_and_later, in_next_arc, own_indexes_left}
use Rattle.guarded_meaning.proofs.Shares.{share_is_greatest}
use Rattle.guarded_reduction.specs.Numbers.{left_arcs}
use Rattle.guarded_reduction.specs.Sharing.{level_after, without_all}
use Rattle.guarded_reduction.proofs.Next.{IsGone, before_greater, go_on, no_step, one_step}
use Rattle.guarded_reduction.specs.declared.queue.entry.Entry.{Entry}
use Rattle.guarded_reduction.specs.Linking.{Linked}

-- ---- the next corner, and whether it goes under a threshold

module _ (guard : Guard) (t : ℕ) (arcs : List (List Vertex)) where
  none_goes : next_corner guard arcs ≡ None → next_arcs guard t arcs ≡ None
  none_goes e = no_next_law guard t arcs (λ d k. and_right (nat_lt d.corner.area t) (guard arcs d) (none_is_next guard arcs e d k))

  module _ (c : ArcCorner) (e : next_corner guard arcs ≡ Some c) where
    under_goes : c.corner.area < t → next_arcs guard t arcs ≡ Some (left_by arcs c)
    under_goes l =
        let n = next_is guard arcs c e in
        next_law guard t arcs c n.among (and_from (nat_lt c.corner.area t) (guard arcs c) (lt-ltb c.corner.area t l) n.passed)
        (λ d k g. n.none_before d k (and_parts (nat_lt d.corner.area t) (guard arcs d) g).1)

    over_stays : t ≤ c.corner.area → next_arcs guard t arcs ≡ None
    over_stays l =
        let n = next_is guard arcs c e in
        no_next_law guard t arcs (λ d k. false_from_ne_true (goes guard t arcs d) (λ g.
        let m = and_parts (nat_lt d.corner.area t) (guard arcs d) g in
        let u = ltb-true d.corner.area t m.0 in
        both_ways (goes_before d c) (n.none_before d k m.1) (before_greater d c (omega (arith, u, l)))))

-- ---- how many positions are between the ends

abbrev inner : List (List Vertex) → ℕ
inner arcs = interior_count (points_of arcs)

but_last : {X : Type 0} (x : X) (xs : List X) → length (all_but_last_of x xs) ≡ length xs
but_last x [] = refl
but_last x (y ∷ ys) = ap suc (but_last y ys)

length_interior : {X : Type 0} (xs : List X) → length (interior xs) ≡ length xs - 2
length_interior [] = refl
length_interior (x ∷ []) = refl
length_interior (x ∷ (y ∷ ys)) = omega (arith, but_last y ys)

count_cons : (ps : List Point) (arcs : List (List Point)) → interior_count (ps ∷ arcs) ≡ (length ps - 2) + interior_count arcs
count_cons ps arcs = omega (arith, length-append (interior ps) (joined (map interior arcs)), length_interior ps)

pub count_within : (arcs : List (List Point)) → interior_count arcs ≤ length (joined arcs)
count_within [] = omega arith
count_within (ps ∷ arcs) = omega (arith, count_within arcs, count_cons ps arcs, length-append ps (joined arcs))

pub count_ahead : (arcs : List (List Point)) (arc : List Point) (i : ℕ) → i < length arcs → arc ≡ get_or arcs i arc → interior_count (drop i arcs) ≡ (length arc - 2) + interior_count (drop (i + 1) arcs)
count_ahead arcs arc i h e = ap interior_count (drop_here arcs i arc h e) ∙ count_cons arc (drop (i + 1) arcs)

-- ---- one fewer with each corner

abbrev OneLess : List (List Vertex) → ArcCorner → Type 0
OneLess arcs c = inner (left_by arcs c) + 1 ≡ inner arcs

inner_cons : (vs : List Vertex) (arcs : List (List Vertex)) → inner (vs ∷ arcs) ≡ (length vs - 2) + inner arcs
inner_cons vs arcs = omega (arith, count_cons (map (λ v. v.point) vs) (points_of arcs), length-map vs (λ v. v.point))

less_first : (vs : List Vertex) (arcs : List (List Vertex)) (c : ArcCorner) → IsTaken 0 vs c → OneLess (vs ∷ arcs) c
less_first vs arcs c t =
    let was = ap (λ (ws : List Vertex). length ws) t.was ∙ length-append t.front (t.a ∷ (t.p ∷ (t.d ∷ t.back))) in
    let is = ap (λ (ws : List Vertex). length ws) t.is ∙ length-append t.front (t.a ∷ (t.d ∷ t.back)) in
    subst (OneLess (vs ∷ arcs)) (sym t.at) (omega (arith, was, is, inner_cons (without t.p.index vs) arcs, inner_cons vs arcs))

one_less : (arcs : List (List Vertex)) → AllByRecursion HasOwnIndexes arcs → AllByRecursion (OneLess arcs) (all_corners 0 arcs)
one_less [] h = tt
one_less (vs ∷ arcs) h =
    first_and_later (OneLess (vs ∷ arcs)) vs arcs (all_weaker (IsTaken 0 vs) (OneLess (vs ∷ arcs)) (λ c t. less_first vs arcs c t) (arc_corners 0 vs) (all_taken 0 vs h.0))
    (all_weaker (OneLess arcs) (λ c. OneLess (vs ∷ arcs) (in_next_arc c)) (λ c r. omega (arith, r, inner_cons vs (left_by arcs c), inner_cons vs arcs)) (all_corners 0 arcs) (one_less arcs h.1))

no_more : (guard : Guard) (n t : ℕ) (arcs : List (List Vertex)) → AllByRecursion HasOwnIndexes arcs → inner (eliminate_arcs guard n t arcs) ≤ inner arcs
no_more guard n t arcs own = (eliminate_keeps guard t (λ left. (inner left ≤ inner arcs) × AllByRecursion HasOwnIndexes left)
    (λ left h. all_weaker (OneLess left) (λ c. guard left c ≡ true → (inner (left_by left c) ≤ inner arcs) × AllByRecursion HasOwnIndexes (left_by left c))
    (λ c r g. (omega (arith, r, h.0), own_indexes_left c.arc c.corner.index left h.1)) (all_corners 0 left) (one_less left h.1))
    n arcs (omega arith, own)).0

-- ---- so many corners go

abbrev level_on : Guard → ℕ → ℕ → List (List Vertex) → Option ArcCorner → ℕ
level_on guard n level arcs None = level
level_on guard n level arcs (Some c) = level_after guard n (max level c.corner.area) (left_by arcs c)

pub level_ends : (guard : Guard) (n level : ℕ) (arcs : List (List Vertex)) → next_corner guard arcs ≡ None → level_after guard n level arcs ≡ level
level_ends guard zero level arcs e = refl
level_ends guard (suc n) level arcs e = ap (level_on guard n level arcs) e

rises_on : (guard : Guard) (n level : ℕ) (arcs : List (List Vertex)) → ((k : ℕ) (left : List (List Vertex)) → k ≤ level_after guard n k left) → (o : Option ArcCorner) → level ≤ level_on guard n level arcs o
rises_on guard n level arcs ih None = omega arith
rises_on guard n level arcs ih (Some c) = let h = ih (max level c.corner.area) (left_by arcs c) in omega (arith, h)

rises : (guard : Guard) (n level : ℕ) (arcs : List (List Vertex)) → level ≤ level_after guard n level arcs
rises guard zero level arcs = omega arith
rises guard (suc n) level arcs = rises_on guard n level arcs (λ k left. rises guard n k left) (next_corner guard arcs)

-- how many of those between the ends stay under a threshold
abbrev many_at : Guard → ℕ → List (List Vertex) → ℕ → ℕ
many_at guard m arcs t = inner (eliminate_arcs guard m t arcs)

-- Of n corners as many go as may, to the level top. They go at each threshold over it; at it one that went stays; and where fewer go, no threshold over it
-- is another.
record HasGone (guard : Guard) (n m level top : ℕ) (arcs : List (List Vertex)) : Type 0 where
  pub gone : ℕ
  pub within : gone ≤ n
  pub fewer : (t : ℕ) → top < t → many_at guard m arcs t + gone ≤ inner arcs
  pub more : level < top → inner arcs < many_at guard m arcs top + gone
  pub all : (gone ≡ n) ⊎ ((t : ℕ) → top < t → many_at guard m arcs (suc t) ≡ many_at guard m arcs t)

module _ (guard : Guard) (n m level : ℕ) (arcs : List (List Vertex)) (own : AllByRecursion HasOwnIndexes arcs) where
  none_gone : next_corner guard arcs ≡ None → HasGone guard (suc n) (suc m) level level arcs
  none_gone e = record { gone = 0; within = omega arith; fewer = λ t l. omega (arith, same t); more = λ l. absurd (omega (arith, l)); all = inr (λ t l. same (suc t) ∙ sym (same t)) }
    where
      same : (t : ℕ) → many_at guard (suc m) arcs t ≡ inner arcs
      same t = ap (λ o. inner (go_on guard m t arcs o)) (none_goes guard t arcs e)

  module _ (c : ArcCorner) (e : next_corner guard arcs ≡ Some c) (top : ℕ) (over : max level c.corner.area ≤ top) (r : HasGone guard n m (max level c.corner.area) top (left_by arcs c)) where
    less : OneLess arcs c
    less = each_of (OneLess arcs) (all_corners 0 arcs) c (one_less arcs own) (next_is guard arcs c e).among

    under : (t : ℕ) → c.corner.area < t → many_at guard (suc m) arcs t ≡ many_at guard m (left_by arcs c) t
    under t l = ap (λ o. inner (go_on guard m t arcs o)) (under_goes guard t arcs c e l)

    some : level < top → (c.corner.area < top) ⊎ (top ≤ c.corner.area) → inner arcs < many_at guard (suc m) arcs top + suc r.gone
    some l (inl k) = let h = r.more (omega (arith, l, k)) in omega (arith, less, under top k, h)
    some l (inr k) = let h : many_at guard (suc m) arcs top ≡ inner arcs = ap (λ o. inner (go_on guard m top arcs o)) (over_stays guard top arcs c e k) in omega (arith, h)

    each : (r.gone ≡ n) ⊎ ((t : ℕ) → top < t → many_at guard m (left_by arcs c) (suc t) ≡ many_at guard m (left_by arcs c) t) →
        (suc r.gone ≡ suc n) ⊎ ((t : ℕ) → top < t → many_at guard (suc m) arcs (suc t) ≡ many_at guard (suc m) arcs t)
    each (inl k) = inl (ap suc k)
    each (inr f) = inr (λ t l. under (suc t) (omega (arith, over, l)) ∙ f t l ∙ sym (under t (omega (arith, over, l))))

    some_gone : HasGone guard (suc n) (suc m) level top arcs
    some_gone = record { gone = suc r.gone; within = omega (arith, r.within); fewer = λ t l. omega (arith, less, under t (omega (arith, over, l)), r.fewer t l); more = λ l. some l (cases_lt c.corner.area top); all = each r.all }

  gone_on : ((k : ℕ) (left : List (List Vertex)) → AllByRecursion HasOwnIndexes left → HasGone guard n m k (level_after guard n k left) left) → (o : Option ArcCorner) → next_corner guard arcs ≡ o →
      HasGone guard (suc n) (suc m) level (level_on guard n level arcs o) arcs
  gone_on ih None e = none_gone e
  gone_on ih (Some c) e = some_gone c e (level_after guard n (max level c.corner.area) (left_by arcs c)) (rises guard n (max level c.corner.area) (left_by arcs c))
      (ih (max level c.corner.area) (left_by arcs c) (own_indexes_left c.arc c.corner.index arcs own))

has_gone : (guard : Guard) (n m level : ℕ) (arcs : List (List Vertex)) → n ≤ m → AllByRecursion HasOwnIndexes arcs → HasGone guard n m level (level_after guard n level arcs) arcs
has_gone guard zero m level arcs le own = record { gone = 0; within = omega arith; fewer = λ t l. let k = no_more guard m t arcs own in omega (arith, k); more = λ l. absurd (omega (arith, l)); all = inl refl }
has_gone guard (suc n) zero level arcs le own = absurd (omega (arith, le))
has_gone guard (suc n) (suc m) level arcs le own = gone_on guard n m level arcs own (λ k left o. has_gone guard n m k left (omega (arith, le)) o) (next_corner guard arcs) refl

-- ---- where fewer stay there is a weight

module _ (t : ℕ) where
  abbrev one : ℕ → Option ℕ → ℕ
  one k w = cond (is_kept_at k w) 1 0

  kept_cons : (k : ℕ) (w : Option ℕ) (ws : List (Option ℕ)) → count_kept k (w ∷ ws) ≡ one k w + count_kept k ws
  kept_cons k w ws = sum_by-cons (λ v. cond (is_kept_at k v) 1 0) w ws

  kept_over : (k v : ℕ) → k ≤ v → one k (Some v) ≡ 1
  kept_over k v h = ap (λ b. cond b 1 0) (over_test v k h)

  gone_under : (k v : ℕ) → v < k → one k (Some v) ≡ 0
  gone_under k v h = ap (λ b. cond b 1 0) (under_test v k h)

  either : (v : ℕ) → (one (suc t) (Some v) ≡ one t (Some v)) ⊎ ((t ≡ v) × (one t (Some v) ≡ one (suc t) (Some v) + 1))
  either v = on (cases_lt v t) (cases_lt v (suc t))
    where
      on : (v < t) ⊎ (t ≤ v) → (v < suc t) ⊎ (suc t ≤ v) → (one (suc t) (Some v) ≡ one t (Some v)) ⊎ ((t ≡ v) × (one t (Some v) ≡ one (suc t) (Some v) + 1))
      on (inr l) (inl k) = inr (omega (arith, l, k), omega (arith, kept_over t v l, gone_under (suc t) v k))
      on (inr l) (inr k) = inl (omega (arith, kept_over t v l, kept_over (suc t) v k))
      on (inl l) k = inl (omega (arith, gone_under t v l, gone_under (suc t) v (omega (arith, l))))

  fewer_over : (ws : List (Option ℕ)) → count_kept (suc t) ws ≤ count_kept t ws
  fewer_over [] = omega arith
  fewer_over (None ∷ ws) = omega (arith, kept_cons (suc t) None ws, kept_cons t None ws, fewer_over ws)
  fewer_over (Some v ∷ ws) = let h = fewer_over ws in elim (either v) [
    | inl e ↦ omega (arith, kept_cons (suc t) (Some v) ws, kept_cons t (Some v) ws, h, e)
    | inr k ↦ omega (arith, kept_cons (suc t) (Some v) ws, kept_cons t (Some v) ws, h, k.1)
  ]

  known_fewer : (ws : List (Option ℕ)) → In t (known ws) → count_kept (suc t) ws < count_kept t ws
  known_fewer [] m = elim m [ ]
  known_fewer (None ∷ ws) m = omega (arith, kept_cons (suc t) None ws, kept_cons t None ws, known_fewer ws m)
  known_fewer (Some v ∷ ws) (inl e) = omega (arith, kept_cons (suc t) (Some v) ws, kept_cons t (Some v) ws, fewer_over ws, kept_over t v (omega (arith, e)), gone_under (suc t) v (omega (arith, e)))
  known_fewer (Some v ∷ ws) (inr m) = let h = known_fewer ws m in elim (either v) [
    | inl e ↦ omega (arith, kept_cons (suc t) (Some v) ws, kept_cons t (Some v) ws, h, e)
    | inr k ↦ omega (arith, kept_cons (suc t) (Some v) ws, kept_cons t (Some v) ws, h, k.1)
  ]

  fewer_known : (ws : List (Option ℕ)) → count_kept (suc t) ws < count_kept t ws → In t (known ws)
  fewer_known [] h = absurd (omega (arith, h))
  fewer_known (None ∷ ws) h = fewer_known ws (omega (arith, h, kept_cons (suc t) None ws, kept_cons t None ws))
  fewer_known (Some v ∷ ws) h = elim (either v) [
    | inl e ↦ inr (fewer_known ws (omega (arith, h, kept_cons (suc t) (Some v) ws, kept_cons t (Some v) ws, e)))
    | inr k ↦ inl k.0
  ]

-- ---- the share

module _ (guard : Guard) (arcs : List (List Point)) (p q most : ℕ) (part : p ≤ q) (enough : IsEnough p q (interior_count arcs) most) (least : (n : ℕ) → IsEnough p q (interior_count arcs) n → most ≤ n) where
  abbrev ws : List (Option ℕ)
  ws = interior_weights guard arcs

  abbrev steps : ℕ
  steps = length (joined arcs)

  abbrev whole : List (List Vertex)
  whole = map (numbered 0) arcs

  abbrev top : ℕ
  top = level_after guard most 0 whole

  abbrev best : ℕ
  best = share p q ws

  many : length ws ≡ interior_count arcs
  many = weights_count guard arcs

  all_inner : inner whole ≡ interior_count arcs
  all_inner = ap interior_count (points_numbered arcs)

  counted : (t : ℕ) → count_kept t ws ≡ many_at guard steps whole t
  unfolding reduced_arcs
  counted t = counted_by_weight guard t arcs

  pub most_within : most ≤ interior_count arcs
  most_within = least (interior_count arcs) (λ n some k. omega (arith, some))

  r : HasGone guard most steps 0 top whole
  r = let h = count_within arcs in let k = most_within in has_gone guard most steps 0 whole (omega (arith, h, k)) (all_numbered_own arcs)

  greatest : IsGreatestShare p q ws best
  greatest = share_is_greatest p q ws part

  not_under : top < best → (best ≡ 0) ⊎ In best (known ws) → ⊥
  not_under l (inl e) = absurd (omega (arith, l, e))
  not_under l (inr m) = on r.all
    where
      drops : count_kept (suc best) ws < count_kept best ws
      drops = known_fewer best ws m

      on : (r.gone ≡ most) ⊎ ((t : ℕ) → top < t → many_at guard steps whole (suc t) ≡ many_at guard steps whole t) → ⊥
      on (inl e) =
          let few = enough (count_kept best ws) (omega (arith, drops)) (subst (λ n. p * n ≤ q * count_kept best ws) many greatest.keeps) in
          omega (arith, few, r.fewer best l, counted best, all_inner, e)
      on (inr f) = omega (arith, drops, f best l, counted best, counted (suc best))

  not_over : best < top → ⊥
  not_over l =
      let more = r.more (omega (arith, l)) in
      let fewer = r.fewer (suc top) (omega arith) in
      let within = no_more guard steps top whole (all_numbered_own arcs) in
      let less = greatest.fewer_over top (fewer_known top ws (omega (arith, more, fewer, counted top, counted (suc top)))) l in
      let one_less_is_enough : IsEnough p q (interior_count arcs) (most - 1) = λ n some keeps. on n keeps less more within (cases_lt (count_kept top ws) n) in
      let few = least (most - 1) one_less_is_enough in
      omega (arith, few, more, within, r.within)
    where
      on : (n : ℕ) → p * interior_count arcs ≤ q * n → q * count_kept top ws < p * length ws → inner whole < many_at guard steps whole top + r.gone → many_at guard steps whole top ≤ inner whole →
          (count_kept top ws < n) ⊎ (n ≤ count_kept top ws) → interior_count arcs < n + (most - 1)
      on n keeps less more within (inl k) = omega (arith, more, within, k, counted top, all_inner, r.within)
      on n keeps less more within (inr k) =
          let times = mul-le q n q (count_kept top ws) (omega arith) k in
          let same : p * length ws ≡ p * interior_count arcs = ap (λ m. p * m) many in
          absurd (omega (arith, keeps, less, times, same))

  pub level_is_chosen : top ≡ chosen p q guard arcs
  level_is_chosen = on (cases_lt top best) (cases_lt best top)
    where
      on : (top < best) ⊎ (best ≤ top) → (best < top) ⊎ (top ≤ best) → top ≡ best
      on (inl l) k = absurd (not_under l greatest.among)
      on (inr l) (inl k) = absurd (not_over k)
      on (inr l) (inr k) = omega (arith, l, k)

-- ---- corner by corner

-- at zero none goes
pub none_at_zero : (guard : Guard) (arcs : List (List Point)) → map (numbered 0) arcs ≡ remaining_arcs guard 0 arcs
none_at_zero guard arcs = no_step guard (length (joined arcs)) 0 (map (numbered 0) arcs) (remaining_arcs guard 0 arcs)
    (no_next_law guard 0 (map (numbered 0) arcs) (λ d k. and_left (nat_lt d.corner.area 0) (guard (map (numbered 0) arcs) d) (le-ltb d.corner.area 0 (omega arith)))) refl

module _ (guard : Guard) (arcs : List (List Point)) (s : Linked) (e : Entry) (g : IsGone guard arcs s e) where
  abbrev now : List (List Vertex)
  now = left_arcs arcs s.left

  abbrev later : List (List Vertex)
  later = left_arcs arcs (slice_set s.left e.place false)

  pub level_step : (n m level last : ℕ) → n ≡ suc m → level_after guard n level now ≡ last → level_after guard m (max level e.area) later ≡ last
  level_step n m level last z h =
      sym (ap (λ k. level_after guard k level now) z ∙ ap (level_on guard m level now) g.is_next ∙ ap (λ a. level_after guard m (max level a) (left_by now g.next)) g.area ∙ ap (level_after guard m (max level e.area)) g.leaves) ∙ h

  -- it goes at a threshold over its area
  pub over_step : (n m t : ℕ) (last : List (List Vertex)) → n ≡ suc m → e.area < t → eliminate_arcs guard n t now ≡ last → eliminate_arcs guard m t later ≡ last
  over_step n m t last z l h = one_step guard n m t now later last z (under_goes guard t now g.next g.is_next (omega (arith, l, g.area)) ∙ ap Some g.leaves) h

  -- and none at its area
  pub at_step : (n : ℕ) (last : List (List Vertex)) → eliminate_arcs guard n e.area now ≡ last → now ≡ last
  at_step n last h = no_step guard n e.area now last (over_stays guard e.area now g.next g.is_next (omega (arith, g.area))) h

  -- what stays at the level stays at it still, or all that is left now does
  pub stays_still : (n level new : ℕ) (stays after left : List Bool) → s.left ≡ left → new ≡ max level e.area → (e.area ≤ level → after ≡ stays) → (level < e.area → after ≡ left) →
      ((t : ℕ) → level < t → eliminate_arcs guard n t now ≡ remaining_arcs guard t arcs) → left_arcs arcs stays ≡ remaining_arcs guard level arcs → left_arcs arcs after ≡ remaining_arcs guard new arcs
  stays_still n level new stays after left is risen same more rest h = on (cases_lt level e.area)
    where
      on : (level < e.area) ⊎ (e.area ≤ level) → left_arcs arcs after ≡ remaining_arcs guard new arcs
      on (inl l) =
          let top : e.area ≡ new = omega (arith, risen, l) in
          ap (left_arcs arcs) (more l ∙ sym is) ∙ at_step n (remaining_arcs guard e.area arcs) (rest e.area l) ∙ ap (λ t. remaining_arcs guard t arcs) top
      on (inr l) = let top : level ≡ new = omega (arith, risen, l) in ap (left_arcs arcs) (same l) ∙ h ∙ ap (λ t. remaining_arcs guard t arcs) top

-- ---- places that don't stay

pub without_one_more : (zs : List ℕ) (z : ℕ) (bs : List Bool) → without_all (zs ++ (z ∷ [])) bs ≡ slice_set (without_all zs bs) z false
without_one_more [] z bs = refl
without_one_more (y ∷ zs) z bs = without_one_more zs z (slice_set bs y false)

-- the next of them doesn't stay, if there is such a place
pub without_here : (zs : List ℕ) (i z : ℕ) (bs new : List Bool) → i < length zs → z ≡ get_or zs i z → (z < length bs → new ≡ slice_set bs z false) → (length bs ≤ z → new ≡ bs) →
    without_all (drop (i + 1) zs) new ≡ without_all (drop i zs) bs
without_here zs i z bs new h e f g = ap (without_all (drop (i + 1) zs)) (on (cases_lt z (length bs))) ∙ sym (ap (λ l. without_all l bs) (drop_here zs i z h e))
  where
    on : (z < length bs) ⊎ (length bs ≤ z) → new ≡ slice_set bs z false
    on (inl l) = f l
    on (inr l) = g l ∙ sym (set_past bs z false l)

pub without_many : (zs : List ℕ) (bs : List Bool) → length (without_all zs bs) ≡ length bs
without_many [] bs = refl
without_many (z ∷ zs) bs = without_many zs (slice_set bs z false) ∙ length-set bs z false
