-- The corner that is taken out is the next to go.
use Rattle.std.proofs.Common.{◌≡◌, ℕ, ℤ, zero, suc, ◌<◌, ◌≤◌, Bool, true, false, not, ◌||◌, nat_lt, List, slice_index, slice_set, Option, Some, None, refl, ap, sym, ◌∙◌, subst, ◌⊎◌, inl, inr, arith}
use Rattle.std.specs.List.{Contains}
use Rattle.std.specs.Cmp.{IsTotalOrder, IsStrictWeakOrder}
use Rattle.std.specs.Ordering.{ordering_then, nat_cmp, is_lt}
use Rattle.std.specs.declared.cmp.Ordering.{Ordering}
use Rattle.std.specs.declared.cmp.Ordering.TheVariants.{Less, Equal, Greater}
use Rattle.std.specs.declared.cmp.Reverse.{Reverse}
use Rattle.std.proofs.lemmas.Bool.{and_parts, and_from, both_ways, cases_lt, false_from_ne_true, lt-ltb, ltb-true}
use Rattle.std.proofs.lemmas.Bool.Decides.{nat_tests}
use Rattle.std.proofs.lemmas.Cmp.{on_total, then_total, nat_cmp_total, int_cmp_total}
use Rattle.std.proofs.lemmas.List.MinMax.{ranks_by}
use Rattle.geometry.specs.Lists.{In}
use Rattle.geometry.specs.Order.{point_cmp}
use Rattle.geometry.specs.Points.{Point}
use Rattle.geometry.specs.Units.{area_limit}
use Rattle.elimination_meaning.specs.Elimination.{Vertex}
use Rattle.guarded_meaning.specs.Arcs.{ArcCorner, all_corners, left_by, without_at}
use Rattle.guarded_meaning.specs.Elimination.{Guard, eliminate_arcs, goes, goes_before, next_arcs, next_corner}
use Rattle.guarded_meaning.specs.Guards.{guarded_by, is_free, keeps_rings}
use Rattle.guarded_meaning.proofs.First.{next_is, next_law, no_next_law, none_is_next, tied}
use Rattle.guarded_reduction.specs.declared.index.corner.Corner.{Corner}
use Rattle.guarded_reduction.specs.Blocking.{is_blocked_by}
use Rattle.guarded_reduction.specs.Indexes.{Meets, NoneMeets, point_at}
use Rattle.guarded_reduction.specs.Laws.{asked}
use Rattle.guarded_reduction.specs.Tests.{is_held_by}
use Rattle.guarded_reduction.proofs.Free.{blocked_inside, free_law}
use Rattle.guarded_reduction.proofs.NotFree.{blocked_law}
use Rattle.guarded_reduction.specs.declared.queue.entry.Entry.{Entry}
use Rattle.guarded_reduction.specs.Entries.{AreBelow, IsDue, entry_cmp, entry_in, turned}
use Rattle.guarded_reduction.specs.Linking.{Linked, IsShowing, IsWhole, corner_in, is_fixed, unlinked}
use Rattle.guarded_reduction.specs.Keeping.{FixedCannotGo, IsKept}
use Rattle.guarded_reduction.specs.Numbers.{left_arcs, number}
use Rattle.guarded_reduction.specs.States.{HoldsByLink, IsHeld, IsNext, NoneNext, blocks}
use Rattle.guarded_reduction.specs.Waiting.{Waiting}
use Rattle.guarded_reduction.proofs.Numbers.{numbers_rise}
use Rattle.guarded_reduction.proofs.OtherEnd.{end_blocks}
use Rattle.guarded_reduction.proofs.Showing.{IsFound, IsShownCorner, found, own_from, own_place, own_to, shown_corner}
use Rattle.guarded_reduction.proofs.Unlinking.{left_is, still_showing}

-- ---- the order of entries

pub entry_total : IsTotalOrder entry_cmp
entry_total = then_total (on_total (λ e. e.area) nat_cmp_total) (then_total (on_total (λ e. e.at) (then_total (on_total (λ p. p.x) int_cmp_total) (on_total (λ p. p.y) int_cmp_total)))
    (then_total (on_total (λ e. e.place) nat_cmp_total) (then_total (on_total (λ e. e.before) nat_cmp_total) (on_total (λ e. e.after) nat_cmp_total))))

abbrev is_first : Entry → Entry → Bool
is_first d e = is_lt (entry_cmp d e)

entry_order : IsStrictWeakOrder is_first
entry_order = ranks_by entry_total (λ c. c)

not_before_itself : (e : Entry) → is_first e e ≡ true → ⊥
not_before_itself e h = both_ways (is_first e e) (entry_order.one_way e e h) h

later_parts : (a b m n : Ordering) → (is_lt m ≡ true → is_lt n ≡ true) → is_lt (ordering_then a (ordering_then b m)) ≡ true → is_lt (ordering_then a (ordering_then b n)) ≡ true
later_parts Less b m n f h = refl
later_parts Equal Less m n f h = refl
later_parts Equal Equal m n f h = f h
later_parts Equal Greater m n f h = h
later_parts Greater b m n f h = h

less_cmp : (m n : ℕ) (o : Ordering) → m < n → is_lt (ordering_then (nat_cmp m n) o) ≡ true
less_cmp m n o h = grind (arith, nat_tests)

greater_cmp : (m n : ℕ) (o : Ordering) → n < m → is_lt (ordering_then (nat_cmp m n) o) ≡ false
greater_cmp m n o h = grind (arith, nat_tests)

less_of : (i j : ℕ) → is_lt (nat_cmp i j) ≡ true → i < j
less_of i j h = grind (arith, nat_tests)

first_of_two : (a b i j : ℕ) → is_lt (ordering_then (nat_cmp a b) (nat_cmp i j)) ≡ true → (a < b) ⊎ ((a ≡ b) × (i < j))
first_of_two a b i j h = on (cases_lt a b)
  where
    level : a ≡ b → is_lt (nat_cmp i j) ≡ true
    level e = grind (arith, nat_tests)

    not_over : b < a → ⊥
    not_over l = grind (arith, nat_tests)

    by : (b < a) ⊎ (a ≡ b) → (a < b) ⊎ ((a ≡ b) × (i < j))
    by (inl l) = absurd (not_over l)
    by (inr e) = inr (e, less_of i j (level e))

    on : (a < b) ⊎ (b ≤ a) → (a < b) ⊎ ((a ≡ b) × (i < j))
    on (inl l) = inl l
    on (inr l) = by (over (cases_lt b a))
      where
        over : (b < a) ⊎ (a ≤ b) → (b < a) ⊎ (a ≡ b)
        over (inl k) = inl k
        over (inr k) = inr (omega (arith, k, l))

-- a corner doesn't go before one of a lesser area
pub not_before_less : (d c : ArcCorner) → c.corner.area < d.corner.area → goes_before d c ≡ false
unfolding goes_before
not_before_less d c h = greater_cmp d.corner.area c.corner.area (ordering_then (point_cmp d.corner.point c.corner.point) (ordering_then (nat_cmp d.arc c.arc) (nat_cmp d.corner.index c.corner.index))) h

-- and one of a lesser area does
pub before_greater : (d c : ArcCorner) → d.corner.area < c.corner.area → goes_before d c ≡ true
unfolding goes_before
before_greater d c h = less_cmp d.corner.area c.corner.area (ordering_then (point_cmp d.corner.point c.corner.point) (ordering_then (nat_cmp d.arc c.arc) (nat_cmp d.corner.index c.corner.index))) h

-- ---- guards

where_asked : (b x : Bool) → (b ≡ true → x ≡ true) → (not b || x) ≡ true
where_asked true x f = f refl
where_asked false x f = refl

asked_so : (b x : Bool) → (not b || x) ≡ true → b ≡ true → x ≡ true
asked_so true x h e = h
asked_so false x h e = grind (arith, e)

-- what may go under a guard is under the threshold, and free where that is asked for, and keeps the rings
pub record MayGo (b : Bool) (rings : List (List ℤ)) (t : ℕ) (arcs : List (List Vertex)) (c : ArcCorner) : Type 0 where
  pub under : c.corner.area < t
  pub free : b ≡ true → is_free arcs c ≡ true
  pub stay : keeps_rings rings arcs c ≡ true

passes : (b : Bool) (rings : List (List ℤ)) (t : ℕ) (arcs : List (List Vertex)) (c : ArcCorner) → MayGo b rings t arcs c → goes (guarded_by b rings) t arcs c ≡ true
passes b rings t arcs c h = and_from _ _ (lt-ltb c.corner.area t h.under) (and_from _ _ (where_asked b (is_free arcs c) h.free) h.stay)

passed : (b : Bool) (rings : List (List ℤ)) (t : ℕ) (arcs : List (List Vertex)) (c : ArcCorner) → goes (guarded_by b rings) t arcs c ≡ true → MayGo b rings t arcs c
passed b rings t arcs c h =
    let r = and_parts (nat_lt c.corner.area t) (guarded_by b rings arcs c) h in
    let q = and_parts (not b || is_free arcs c) (keeps_rings rings arcs c) r.1 in
    record { under = ltb-true c.corner.area t r.0; free = asked_so b (is_free arcs c) q.0; stay = q.1 }

-- the corner at the entry's place goes first under this threshold
pub record GoesNow (b : Bool) (rings : List (List ℤ)) (arcs : List (List Point)) (s : Linked) (e : Entry) (top : ℕ) : Type 0 where
  pub corner : ArcCorner
  pub there : In corner (all_corners 0 (left_arcs arcs s.left))
  pub number_is : number arcs corner.arc corner.corner.index ≡ e.place
  pub passes : goes (guarded_by b rings) top (left_arcs arcs s.left) corner ≡ true
  pub none_before : (d : ArcCorner) → In d (all_corners 0 (left_arcs arcs s.left)) → goes (guarded_by b rings) top (left_arcs arcs s.left) d ≡ true → goes_before d corner ≡ false
  pub leaves : left_by (left_arcs arcs s.left) corner ≡ left_arcs arcs (unlinked e.place s).left

module _ (b : Bool) (rings : List (List ℤ)) (arcs : List (List Point)) (t : ℕ) (s : Linked) (show : IsShowing arcs s) (flag : s.no_crossings ≡ b) (fixed : FixedCannotGo arcs rings s) where
  abbrev now : List (List Vertex)
  now = left_arcs arcs s.left

  abbrev own : ArcCorner → ℕ
  own d = number arcs d.arc d.corner.index

  abbrev there : ArcCorner → Type 0
  there d = In d (all_corners 0 now)

  -- a corner that goes before another has an entry that does
  entries_before : (d c : ArcCorner) → there d → there c → goes_before d c ≡ true → is_first (entry_in s (own d)) (entry_in s (own c)) ≡ true
  unfolding goes_before
  entries_before d c m k h =
      let x : IsShownCorner arcs s d = shown_corner arcs s show d m in
      let y : IsShownCorner arcs s c = shown_corner arcs s show c k in
      let e : two d.corner.area c.corner.area d.corner.point c.corner.point ≡ two (entry_in s (own d)).area (entry_in s (own c)).area (entry_in s (own d)).at (entry_in s (own c)).at =
      ap (λ a. two a c.corner.area d.corner.point c.corner.point) x.area ∙ ap (λ b. two (entry_in s (own d)).area b d.corner.point c.corner.point) y.area
      ∙ ap (λ p. two (entry_in s (own d)).area (entry_in s (own c)).area p c.corner.point) x.point ∙ ap (λ q. two (entry_in s (own d)).area (entry_in s (own c)).area (entry_in s (own d)).at q) y.point in
      later_parts (nat_cmp (entry_in s (own d)).area (entry_in s (own c)).area) (point_cmp (entry_in s (own d)).at (entry_in s (own c)).at) (ordering_then (nat_cmp d.arc c.arc) (nat_cmp d.corner.index c.corner.index))
      (ordering_then (nat_cmp (own d) (own c)) (ordering_then (nat_cmp (entry_in s (own d)).before (entry_in s (own c)).before) (nat_cmp (entry_in s (own d)).after (entry_in s (own c)).after)))
      (λ g. less_cmp (own d) (own c) (ordering_then (nat_cmp (entry_in s (own d)).before (entry_in s (own c)).before) (nat_cmp (entry_in s (own d)).after (entry_in s (own c)).after))
      (numbers_rise arcs d.arc d.corner.index c.arc c.corner.index x.there (first_of_two d.arc c.arc d.corner.index c.corner.index g)))
      (sym e ∙ h)
    where
      two : ℕ → ℕ → Point → Point → Bool
      two a b p q = is_lt (ordering_then (nat_cmp a b) (ordering_then (point_cmp p q) (ordering_then (nat_cmp d.arc c.arc) (nat_cmp d.corner.index c.corner.index))))

  asked_is : (d : ArcCorner) → there d → asked d (own d) ≡ corner_in s (own d)
  asked_is d m =
      let x : IsShownCorner arcs s d = shown_corner arcs s show d m in
      ap (λ p. corner p d.corner.point d.after) x.before ∙ ap (λ p. corner (point_at s.positions (slice_index s.befores (own d))) p d.after) x.point
      ∙ ap (λ p. corner (point_at s.positions (slice_index s.befores (own d))) (point_at s.positions (own d)) p) x.after
    where
      corner : Point → Point → Point → Corner
      corner p q r = record { before = p; at = q; after = r; place = own d }

  held_is_not_free : (w : Waiting) (d : ArcCorner) → there d → IsHeld s w (own d) → is_free now d ≡ false
  held_is_not_free w d m h = blocked_law (number arcs) s.positions s.left s.befores s.afters now d h.holder show.only
      (subst (λ (q : Corner). Meets s.positions s.left (is_blocked_by s.positions s.befores s.afters q) h.holder) (sym (asked_is d m)) (record { within = h.within; left = h.left; meets = meets h.holds }))
    where
      meets : (is_held_by (corner_in s (own d)) h.holder (point_at s.positions h.holder) ≡ true) ⊎ HoldsByLink s w (own d) h.holder → blocks s (own d) h.holder (point_at s.positions h.holder) ≡ true
      meets (inl k) = blocked_inside s.positions s.befores s.afters (corner_in s (own d)) h.holder (point_at s.positions h.holder) k
      meets (inr k) = end_blocks s (corner_in s (own d)) h.holder k.end k.joins

  due_of : (d : ArcCorner) → there d → MayGo b rings t now d → IsDue t s (own d)
  due_of d m l =
      let x : IsShownCorner arcs s d = shown_corner arcs s show d m in
      record {
        corner = x.corner;
        under = subst (λ n. n < t) x.area l.under;
        loose = false_from_ne_true (is_fixed s (own d)) (λ e. both_ways (keeps_rings rings now d) (fixed (own d) e d x.there refl) l.stay);
      }

  not_held : (w : Waiting) (d : ArcCorner) → there d → MayGo b rings t now d → IsHeld s w (own d) → ⊥
  not_held w d m l h = both_ways (is_free now d) (held_is_not_free w d m h) (l.free (sym flag ∙ h.asked))

  -- ---- none goes

  pub none_next : (w : Waiting) → NoneNext t s w → next_arcs (guarded_by b rings) t now ≡ None
  none_next w n = no_next_law (guarded_by b rings) t now (λ d m. false_from_ne_true (goes (guarded_by b rings) t now d)
      (λ g. let r = passed b rings t now d g in not_held w d m r (n.held (own d) (due_of d m r))))

  -- ---- one goes

  module _ (items : List (Reverse Entry)) (w : Waiting) (e : Entry) (n : IsNext t s items w e) (stay : IsKept arcs rings s.left e.place true) where
    the_one : IsFound arcs s show e.place
    the_one = found arcs s show e.place n.due.corner

    abbrev one : ArcCorner
    one = the_one.corner

    free : b ≡ true → is_free now one ≡ true
    free f = free_law (number arcs) s.positions s.left s.befores s.afters now one (own one) show.shows
        (let x : IsShownCorner arcs s one = shown_corner arcs s show one the_one.there in record { place = own_place arcs s.left one x.there; from = own_from arcs s.left one x.there; to = own_to arcs s.left one x.there })
        (subst (λ (q : Corner). NoneMeets s.positions s.left (is_blocked_by s.positions s.befores s.afters q)) (sym (asked_is one the_one.there ∙ ap (corner_in s) the_one.number_is)) (n.free (flag ∙ f)))

    under : one.corner.area < t
    under = let x : IsShownCorner arcs s one = shown_corner arcs s show one the_one.there in subst (λ a. a < t) (sym (x.area ∙ ap (λ v. (entry_in s v).area) the_one.number_is)) n.due.under

    may_go : MayGo b rings t now one
    may_go = let x : IsShownCorner arcs s one = shown_corner arcs s show one the_one.there in record { under = under; free = free; stay = stay one x.there the_one.number_is }

    none_before : (d : ArcCorner) → there d → goes (guarded_by b rings) t now d ≡ true → goes_before d one ≡ false
    none_before d m g = let r = passed b rings t now d g in false_from_ne_true (goes_before d one) (λ h. on h (n.covers (own d) (due_of d m r)))
      where
        entry_is : goes_before d one ≡ true → is_first (entry_in s (own d)) e ≡ true
        entry_is h = subst (λ x. is_first (entry_in s (own d)) x ≡ true) (ap (entry_in s) the_one.number_is ∙ sym n.is) (entries_before d one m the_one.there h)

        on : goes_before d one ≡ true → (own d ≡ e.place) ⊎ (Contains items (turned (entry_in s (own d))) ⊎ IsHeld s w (own d)) → ⊥
        on h (inl q) = not_before_itself e (subst (λ x. is_first x e ≡ true) (ap (entry_in s) q ∙ sym n.is) (entry_is h))
        on h (inr (inl k)) = both_ways (is_first (entry_in s (own d)) e) (n.first (entry_in s (own d)) k) (entry_is h)
        on h (inr (inr k)) = not_held w d m (passed b rings t now d g) k

    -- nor does one go before it that isn't under the threshold
    none_before_any : (d : ArcCorner) → there d → guarded_by b rings now d ≡ true → goes_before d one ≡ false
    none_before_any d m g = on (cases_lt d.corner.area t)
      where
        on : (d.corner.area < t) ⊎ (t ≤ d.corner.area) → goes_before d one ≡ false
        on (inl l) = none_before d m (and_from _ _ (lt-ltb d.corner.area t l) g)
        on (inr l) = let u : one.corner.area < t = under in not_before_less d one (omega (arith, u, l))

    -- so it goes next under any threshold that isn't lower
    pub goes_now : (top : ℕ) → t ≤ top → IsWhole s → GoesNow b rings arcs s e top
    goes_now top higher whole = record {
      corner = one;
      there = the_one.there;
      number_is = the_one.number_is;
      passes = passes b rings top now one (let u : one.corner.area < t = under in record { under = omega (arith, u, higher); free = free; stay = may_go.stay });
      none_before = λ d m g. none_before_any d m (and_parts (nat_lt d.corner.area top) (guarded_by b rings now d) g).1;
      leaves = sym (left_is arcs s whole show one the_one.there) ∙ ap (λ z. left_arcs arcs (slice_set s.left z false)) the_one.number_is;
    }

    pub goes_next : (top : ℕ) → t ≤ top → IsWhole s → next_arcs (guarded_by b rings) top now ≡ Some (left_arcs arcs (unlinked e.place s).left)
    goes_next top higher whole = let g = goes_now top higher whole in next_law (guarded_by b rings) top now g.corner g.there g.passes g.none_before ∙ ap Some g.leaves

    pub showing_next : IsWhole s → IsShowing arcs (unlinked e.place s)
    showing_next whole = subst (λ z. IsShowing arcs (unlinked z s)) the_one.number_is (still_showing arcs s whole show one the_one.there)

-- ---- without a threshold

-- the next of all corners is at the entry's place
pub record IsGone (guard : Guard) (arcs : List (List Point)) (s : Linked) (e : Entry) : Type 0 where
  pub next : ArcCorner
  pub is_next : next_corner guard (left_arcs arcs s.left) ≡ Some next
  pub area : next.corner.area ≡ e.area
  pub leaves : left_by (left_arcs arcs s.left) next ≡ left_arcs arcs (slice_set s.left e.place false)

next_alike : (guard : Guard) (arcs : List (List Vertex)) (c : ArcCorner) → In c (all_corners 0 arcs) → guard arcs c ≡ true → ((d : ArcCorner) → In d (all_corners 0 arcs) → guard arcs d ≡ true → goes_before d c ≡ false) →
    (d : ArcCorner) × (next_corner guard arcs ≡ Some d) × (d.corner.area ≡ c.corner.area) × (left_by arcs d ≡ left_by arcs c)
next_alike guard arcs c m g h = on (next_corner guard arcs) refl
  where
    on : (o : Option ArcCorner) → next_corner guard arcs ≡ o → (d : ArcCorner) × (next_corner guard arcs ≡ Some d) × (d.corner.area ≡ c.corner.area) × (left_by arcs d ≡ left_by arcs c)
    on None e = absurd (both_ways (guard arcs c) (none_is_next guard arcs e c m) g)
    on (Some d) e =
        let n = next_is guard arcs d e in
        let a = tied d c (h d n.among n.passed) (n.none_before c m g) in
        (d, e, ap (λ x. x.area) a.1, ap (λ k. without_at k d.corner.index arcs) a.0 ∙ ap (λ x. without_at c.arc x.index arcs) a.1)

module _ (b : Bool) (rings : List (List ℤ)) (arcs : List (List Point)) (s : Linked) (show : IsShowing arcs s) (flag : s.no_crossings ≡ b) (fixed : FixedCannotGo arcs rings s) (below : AreBelow s) where
  abbrev asked_for : Guard
  asked_for = guarded_by b rings

  under_limit : (d : ArcCorner) → In d (all_corners 0 (left_arcs arcs s.left)) → d.corner.area < area_limit
  under_limit d m = let x : IsShownCorner arcs s d = shown_corner arcs s show d m in subst (λ n. n < area_limit) (sym x.area) (below (number arcs d.arc d.corner.index) x.corner)

  allowed : (d : ArcCorner) → In d (all_corners 0 (left_arcs arcs s.left)) → asked_for (left_arcs arcs s.left) d ≡ true → goes asked_for area_limit (left_arcs arcs s.left) d ≡ true
  allowed d m g = and_from _ _ (lt-ltb d.corner.area area_limit (under_limit d m)) g

  pub none_at_all : (w : Waiting) → NoneNext area_limit s w → next_corner asked_for (left_arcs arcs s.left) ≡ None
  none_at_all w n = on (next_corner asked_for (left_arcs arcs s.left)) refl
    where
      on : (o : Option ArcCorner) → next_corner asked_for (left_arcs arcs s.left) ≡ o → next_corner asked_for (left_arcs arcs s.left) ≡ None
      on None e = e
      on (Some d) e =
          let i = next_is asked_for (left_arcs arcs s.left) d e in
          let r = passed b rings area_limit (left_arcs arcs s.left) d (allowed d i.among i.passed) in
          absurd (not_held b rings arcs area_limit s show flag fixed w d i.among r (n.held (number arcs d.arc d.corner.index) (due_of b rings arcs area_limit s show flag fixed d i.among r)))

  pub one_gone : (t : ℕ) (items : List (Reverse Entry)) (w : Waiting) (e : Entry) → IsWhole s → IsNext t s items w e → IsKept arcs rings s.left e.place true → IsGone asked_for arcs s e
  one_gone t items w e whole n stay =
      let f : IsFound arcs s show e.place = the_one b rings arcs t s show flag fixed items w e n stay in
      let x : IsShownCorner arcs s f.corner = shown_corner arcs s show f.corner f.there in
      let a = next_alike asked_for (left_arcs arcs s.left) f.corner f.there
      (and_parts _ _ (passes b rings t (left_arcs arcs s.left) f.corner (may_go b rings arcs t s show flag fixed items w e n stay))).1
      (none_before_any b rings arcs t s show flag fixed items w e n stay) in
      record {
        next = a.0;
        is_next = a.1;
        area = a.2 ∙ x.area ∙ ap (λ v. (entry_in s v).area) f.number_is ∙ sym (ap (λ (d : Entry). d.area) n.is);
        leaves = a.3 ∙ sym (left_is arcs s whole show f.corner f.there) ∙ ap (λ z. left_arcs arcs (slice_set s.left z false)) f.number_is;
      }

-- ---- step by step

abbrev pub go_on : Guard → ℕ → ℕ → List (List Vertex) → Option (List (List Vertex)) → List (List Vertex)
go_on guard n t arcs None = arcs
go_on guard n t arcs (Some left) = eliminate_arcs guard n t left

pub one_step : (guard : Guard) (n m t : ℕ) (arcs left last : List (List Vertex)) → n ≡ suc m → next_arcs guard t arcs ≡ Some left → eliminate_arcs guard n t arcs ≡ last → eliminate_arcs guard m t left ≡ last
one_step guard n m t arcs left last e f h = sym (ap (go_on guard m t arcs) f) ∙ sym (ap (λ k. eliminate_arcs guard k t arcs) e) ∙ h

pub no_step : (guard : Guard) (n t : ℕ) (arcs last : List (List Vertex)) → next_arcs guard t arcs ≡ None → eliminate_arcs guard n t arcs ≡ last → arcs ≡ last
no_step guard zero t arcs last f h = h
no_step guard (suc n) t arcs last f h = sym (ap (go_on guard n t arcs) f) ∙ h
