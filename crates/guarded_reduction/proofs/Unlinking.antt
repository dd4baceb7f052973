-- Lists that show arcs show what is left when a corner goes.
use Rattle.std.proofs.Common.{◌≡◌, ◌≢◌, ℕ, ◌<◌, Bool, true, false, not, List, ◌∷◌, length, map, slice_index, slice_index_or, slice_set, get_or-set_same, get_or-set_other, refl, ap, sym, ◌∙◌, subst, ◌⊎◌, inl, inr, arith, if◌then◌else◌}
use Rattle.std.proofs.lemmas.Bool.{both_ways, cases_eq, not-true}
use Rattle.owned_values.proofs.Elements.{each_of}
use Rattle.owned_values.proofs.Members.{in_append, in_left, in_right}
use Rattle.geometry.specs.Lists.{In}
use Rattle.geometry.specs.Points.{Point}
use Rattle.elimination_meaning.specs.Elimination.{Vertex, numbered}
use Rattle.guarded_meaning.specs.Holders.{Across, Inside}
use Rattle.guarded_meaning.specs.Arcs.{ArcCorner, all_corners, Place, places, is_place_of, Neighbours, neighbours_at, all_neighbours, is_pair_of, left_by}
use Rattle.guarded_meaning.proofs.Holders.{holder_stays, places_passing}
use Rattle.guarded_meaning.proofs.Lists.{passed_says}
use Rattle.guarded_meaning.proofs.Neighbours.{AreParted, all_parted}
use Rattle.guarded_meaning.proofs.Weights.{left_passing}
use Rattle.guarded_reduction.specs.Indexes.{is_left_at, point_at}
use Rattle.guarded_reduction.specs.Laws.{IsLinked, IsPlace, IsShown, Leads, Shows, ShowsOnly}
use Rattle.guarded_reduction.proofs.Indexes.{left_before}
use Rattle.guarded_reduction.specs.Linking.{Linked, IsShowing, IsWhole, unlinked}
use Rattle.guarded_reduction.specs.Numbers.{number, HasPlace, left_arcs}
use Rattle.guarded_reduction.proofs.Numbers.{same_number}
use Rattle.guarded_reduction.proofs.Placed.{passing_where, placed}
use Rattle.guarded_reduction.proofs.Showing.{IsShownCorner, ascends, other_pair, other_place, own_from, own_left, own_place, own_to, place_of, shown_corner}

stays_so : (l p : Bool) → p ≡ false → l ≡ (if l then not p else false)
stays_so true p h = sym (ap not h)
stays_so false p h = refl

goes_so : (l p : Bool) → p ≡ true → (if l then not p else false) ≡ false
goes_so true p h = ap not h
goes_so false p h = refl

pub gone_at : (bs : List Bool) (z : ℕ) → z < length bs → is_left_at (slice_set bs z false) z ≡ false
unfolding is_left_at
gone_at bs z h = get_or-set_same bs z false false h

pub same_at : (bs : List Bool) (z v : ℕ) → v ≢ z → is_left_at (slice_set bs z false) v ≡ is_left_at bs v
unfolding is_left_at
same_at bs z v n = get_or-set_other bs z v false false n

module _ (arcs : List (List Point)) (s : Linked) (whole : IsWhole s) (show : IsShowing arcs s) (c : ArcCorner) (m : In c (all_corners 0 (left_arcs arcs s.left))) where
  abbrev now : List (List Vertex)
  now = left_arcs arcs s.left

  abbrev next : List (List Vertex)
  next = left_by now c

  abbrev own : ℕ
  own = number arcs c.arc c.corner.index

  abbrev prior : ℕ
  prior = slice_index s.befores own

  abbrev follower : ℕ
  follower = slice_index s.afters own

  abbrev lefts : List Bool
  lefts = slice_set s.left own false

  abbrev new_befores : List ℕ
  new_befores = slice_set s.befores follower prior

  abbrev new_afters : List ℕ
  new_afters = slice_set s.afters prior follower

  shown : IsShownCorner arcs s c
  shown = shown_corner arcs s show c m

  within : own < length s.left
  within = omega (arith, shown.corner.within, whole.left)

  left_own : is_left_at lefts own ≡ false
  left_own = gone_at s.left own within

  left_other : (z : ℕ) → z ≢ own → is_left_at lefts z ≡ is_left_at s.left z
  left_other z n = same_at s.left own z n

  -- ---- which places are left

  test_is : (x : Place) → In x (places 0 (map (numbered 0) arcs)) → is_left_at lefts (number arcs x.arc x.vertex.index) ≡ (if is_left_at s.left (number arcs x.arc x.vertex.index) then not (is_place_of c x) else false)
  test_is x k = on (cases_eq (number arcs x.arc x.vertex.index) own)
    where
      there : HasPlace arcs x.arc x.vertex.index
      there = let r = placed 0 arcs x k in let e : r.m ≡ x.arc = omega (arith, r.arc) in subst (λ (i : ℕ). HasPlace arcs i x.vertex.index) e r.there

      on : (number arcs x.arc x.vertex.index ≡ own) ⊎ (number arcs x.arc x.vertex.index ≢ own) → is_left_at lefts (number arcs x.arc x.vertex.index) ≡ (if is_left_at s.left (number arcs x.arc x.vertex.index) then not (is_place_of c x) else false)
      on (inl e) =
          let r = same_number arcs x.arc x.vertex.index c.arc c.corner.index there shown.there e in
          ap (is_left_at lefts) e ∙ left_own ∙ sym (goes_so (is_left_at s.left (number arcs x.arc x.vertex.index)) (is_place_of c x) (place_of c x r.0 r.1))
      on (inr n) = left_other (number arcs x.arc x.vertex.index) n ∙ stays_so (is_left_at s.left (number arcs x.arc x.vertex.index)) (is_place_of c x) (other_place arcs s.left c shown.there x n)

  -- the arcs without the place are those that are left by the corner
  pub left_is : left_arcs arcs lefts ≡ next
  left_is = passing_where (λ x. is_left_at s.left (number arcs x.arc x.vertex.index)) (λ x. not (is_place_of c x)) (λ x. is_left_at lefts (number arcs x.arc x.vertex.index)) 0 (map (numbered 0) arcs) test_is
      ∙ sym (left_passing now c)

  -- ---- places and pairs of before

  was_place : (x : Place) → In x (places 0 next) → In x (places 0 now) × (is_place_of c x ≡ false)
  was_place x k =
      let r = passed_says (λ y. not (is_place_of c y)) x (places 0 now) (subst (In x) (ap (places 0) (left_passing now c) ∙ places_passing (λ y. not (is_place_of c y)) 0 now) k) in
      (r.0, not-true (is_place_of c x) r.1)

  parted : AreParted now c
  parted = each_of (AreParted now) (all_corners 0 now) c (all_parted now (own_left arcs s.left)) m

  abbrev first_pair : Neighbours
  first_pair = neighbours_at c.arc parted.a parted.p

  abbrev second_pair : Neighbours
  second_pair = neighbours_at c.arc parted.p parted.d

  abbrev new_pair : Neighbours
  new_pair = neighbours_at c.arc parted.a parted.d

  in_first : In first_pair (all_neighbours 0 now)
  in_first = subst (In first_pair) (sym parted.was) (in_right first_pair parted.front (first_pair ∷ (second_pair ∷ parted.back)) (inl refl))

  in_second : In second_pair (all_neighbours 0 now)
  in_second = subst (In second_pair) (sym parted.was) (in_right second_pair parted.front (first_pair ∷ (second_pair ∷ parted.back)) (inr (inl refl)))

  in_new : In new_pair (all_neighbours 0 next)
  in_new = subst (In new_pair) (sym parted.is) (in_right new_pair parted.front (new_pair ∷ parted.back) (inl refl))

  was_pair : (j : Neighbours) → In j (all_neighbours 0 next) → (In j (all_neighbours 0 now) × (is_pair_of c j ≡ false)) ⊎ (j ≡ new_pair)
  was_pair j k = on (in_append j parted.front (new_pair ∷ parted.back) (subst (In j) parted.is k))
    where
      there : In j parted.front ⊎ In j parted.back → In j (all_neighbours 0 now)
      there (inl i) = subst (In j) (sym parted.was) (in_left j parted.front (first_pair ∷ (second_pair ∷ parted.back)) i)
      there (inr i) = subst (In j) (sym parted.was) (in_right j parted.front (first_pair ∷ (second_pair ∷ parted.back)) (inr (inr i)))

      on : In j parted.front ⊎ In j (new_pair ∷ parted.back) → (In j (all_neighbours 0 now) × (is_pair_of c j ≡ false)) ⊎ (j ≡ new_pair)
      on (inl i) = inl (there (inl i), each_of (λ n. is_pair_of c n ≡ false) parted.front j parted.before i)
      on (inr (inl e)) = inr e
      on (inr (inr i)) = inl (there (inr i), each_of (λ n. is_pair_of c n ≡ false) parted.back j parted.after i)

  -- ---- the two neighbours

  own_is : number arcs c.arc parted.p.index ≡ own
  own_is = ap (λ i. number arcs c.arc i) (sym (ap (λ (d : ArcCorner). d.corner.index) parted.at))

  first_linked : IsLinked s.positions s.left s.befores s.afters (number arcs c.arc parted.a.index) (number arcs c.arc parted.p.index) parted.a.point parted.p.point
  first_linked = show.shows.pair first_pair in_first

  second_linked : IsLinked s.positions s.left s.befores s.afters (number arcs c.arc parted.p.index) (number arcs c.arc parted.d.index) parted.p.point parted.d.point
  second_linked = show.shows.pair second_pair in_second

  prior_is : prior ≡ number arcs c.arc parted.a.index
  prior_is = ap (λ z. slice_index s.befores z) (sym own_is) ∙ first_linked.before 0

  follower_is : follower ≡ number arcs c.arc parted.d.index
  follower_is = ap (λ z. slice_index s.afters z) (sym own_is) ∙ second_linked.after 0

  after_prior : slice_index s.afters prior ≡ own
  after_prior = ap (λ z. slice_index s.afters z) prior_is ∙ first_linked.after 0 ∙ own_is

  before_follower : slice_index s.befores follower ≡ own
  before_follower = ap (λ z. slice_index s.befores z) follower_is ∙ second_linked.before 0 ∙ own_is

  prior_other : number arcs c.arc parted.a.index ≢ own
  prior_other = λ e. absurd (omega (arith, ascends arcs s.left first_pair in_first, e, own_is))

  follower_other : number arcs c.arc parted.d.index ≢ own
  follower_other = λ e. absurd (omega (arith, ascends arcs s.left second_pair in_second, e, own_is))

  afters_same : (d : ℕ) → slice_index_or new_afters prior d ≡ follower
  afters_same d = get_or-set_same s.afters prior follower d (omega (arith, whole.after, whole.afters, whole.before own shown.corner.within))

  befores_same : (d : ℕ) → slice_index_or new_befores follower d ≡ prior
  befores_same d = get_or-set_same s.befores follower prior d (omega (arith, whole.befores, whole.after own shown.corner.within))

  -- ---- they are shown

  still_shown : (z : ℕ) (p : Point) → z ≢ own → IsShown s.positions s.left z p → IsShown s.positions lefts z p
  still_shown z p n h = record { within = h.within; left = left_other z n ∙ h.left; point = h.point }

  old_pair : (j : Neighbours) → In j (all_neighbours 0 now) → is_pair_of c j ≡ false →
      IsLinked s.positions lefts new_befores new_afters (number arcs j.arc j.from.index) (number arcs j.arc j.to.index) j.from.point j.to.point
  old_pair j k h = record {
    from = still_shown (number arcs j.arc j.from.index) j.from.point not_from l.from;
    to = still_shown (number arcs j.arc j.to.index) j.to.point not_to l.to;
    after = λ d. get_or-set_other s.afters prior (number arcs j.arc j.from.index) follower d (λ e. not_to (sym (l.after 0) ∙ ap (λ z. slice_index s.afters z) e ∙ after_prior)) ∙ l.after d;
    before = λ d. get_or-set_other s.befores follower (number arcs j.arc j.to.index) prior d (λ e. not_from (sym (l.before 0) ∙ ap (λ z. slice_index s.befores z) e ∙ before_follower)) ∙ l.before d;
  }
    where
      l : IsLinked s.positions s.left s.befores s.afters (number arcs j.arc j.from.index) (number arcs j.arc j.to.index) j.from.point j.to.point
      l = show.shows.pair j k

      not_from : number arcs j.arc j.from.index ≢ own
      not_from = λ e. both_ways (is_pair_of c j) h (own_from arcs s.left c shown.there j k e)

      not_to : number arcs j.arc j.to.index ≢ own
      not_to = λ e. both_ways (is_pair_of c j) h (own_to arcs s.left c shown.there j k e)

  new_linked : IsLinked s.positions lefts new_befores new_afters (number arcs c.arc parted.a.index) (number arcs c.arc parted.d.index) parted.a.point parted.d.point
  new_linked = record {
    from = still_shown (number arcs c.arc parted.a.index) parted.a.point prior_other first_linked.from;
    to = still_shown (number arcs c.arc parted.d.index) parted.d.point follower_other second_linked.to;
    after = λ d. ap (λ z. slice_index_or new_afters z d) (sym prior_is) ∙ afters_same d ∙ follower_is;
    before = λ d. ap (λ z. slice_index_or new_befores z d) (sym follower_is) ∙ befores_same d ∙ prior_is;
  }

  new_shows : Shows (number arcs) s.positions lefts new_befores new_afters next
  new_shows = record { place = λ x k. place x (was_place x k); pair = λ j k. pair j (was_pair j k) }
    where
      place : (x : Place) → In x (places 0 now) × (is_place_of c x ≡ false) → IsShown s.positions lefts (number arcs x.arc x.vertex.index) x.vertex.point
      place x (k, h) = still_shown (number arcs x.arc x.vertex.index) x.vertex.point (λ e. both_ways (is_place_of c x) h (own_place arcs s.left c shown.there x k e)) (show.shows.place x k)

      pair : (j : Neighbours) → (In j (all_neighbours 0 now) × (is_pair_of c j ≡ false)) ⊎ (j ≡ new_pair) →
          IsLinked s.positions lefts new_befores new_afters (number arcs j.arc j.from.index) (number arcs j.arc j.to.index) j.from.point j.to.point
      pair j (inl (k, h)) = old_pair j k h
      pair j (inr e) = subst (λ (n : Neighbours). IsLinked s.positions lefts new_befores new_afters (number arcs n.arc n.from.index) (number arcs n.arc n.to.index) n.from.point n.to.point) (sym e) new_linked

  -- ---- and nothing else

  still_place : (z : ℕ) → z ≢ own → IsPlace (number arcs) s.positions now z → IsPlace (number arcs) s.positions next z
  still_place z n h = record {
    place = h.place;
    there = holder_stays now c (Inside h.place) (own_left arcs s.left) m h.there (other_place arcs s.left c shown.there h.place (λ e. n (sym h.number_is ∙ e)));
    number_is = h.number_is;
    point = h.point;
  }

  still_leads : (y z : ℕ) → y ≢ own → z ≢ own → Leads (number arcs) s.positions now y z → Leads (number arcs) s.positions next y z
  still_leads y z n k h = record {
    pair = h.pair;
    there = holder_stays now c (Across h.pair) (own_left arcs s.left) m h.there (other_pair arcs s.left c shown.there h.pair (λ e. n (sym h.from ∙ e)) (λ e. k (sym h.to ∙ e)));
    from = h.from;
    to = h.to;
    from_point = h.from_point;
    to_point = h.to_point;
  }

  new_leads : Leads (number arcs) s.positions next prior follower
  new_leads = record {
    pair = new_pair;
    there = in_new;
    from = sym prior_is;
    to = sym follower_is;
    from_point = ap (point_at s.positions) prior_is ∙ first_linked.from.point;
    to_point = ap (point_at s.positions) follower_is ∙ second_linked.to.point;
  }

  -- the place before one that leads to the corner's own is that one
  leads_back : (y : ℕ) → Leads (number arcs) s.positions now y own → y ≡ prior
  leads_back y h = sym (sym (ap (λ z. slice_index s.befores z) h.to) ∙ (show.shows.pair h.pair h.there).before 0 ∙ h.from)

  leads_on : (z : ℕ) → Leads (number arcs) s.positions now own z → z ≡ follower
  leads_on z h = sym (sym (ap (λ y. slice_index s.afters y) h.from) ∙ (show.shows.pair h.pair h.there).after 0 ∙ h.to)

  new_after : (z d : ℕ) → z < length s.positions → z ≢ own → is_left_at s.left z ≡ true → (slice_index_or new_afters z d ≡ z) ⊎ Leads (number arcs) s.positions next z (slice_index_or new_afters z d)
  new_after z d l n h = on (cases_eq z prior)
    where
      other : z ≢ prior → (slice_index_or s.afters z d ≡ z) ⊎ Leads (number arcs) s.positions now z (slice_index_or s.afters z d) → (slice_index_or s.afters z d ≡ z) ⊎ Leads (number arcs) s.positions next z (slice_index_or s.afters z d)
      other k (inl e) = inl e
      other k (inr r) = inr (still_leads z (slice_index_or s.afters z d) n (λ e. k (leads_back z (subst (Leads (number arcs) s.positions now z) e r))) r)

      on : (z ≡ prior) ⊎ (z ≢ prior) → (slice_index_or new_afters z d ≡ z) ⊎ Leads (number arcs) s.positions next z (slice_index_or new_afters z d)
      on (inl e) = inr (subst (λ y. Leads (number arcs) s.positions next y (slice_index_or new_afters y d)) (sym e) (subst (λ y. Leads (number arcs) s.positions next prior y) (sym (afters_same d)) new_leads))
      on (inr k) = subst (λ y. (y ≡ z) ⊎ Leads (number arcs) s.positions next z y) (sym (get_or-set_other s.afters prior z follower d k)) (other k (show.only.after z d l h))

  new_before : (z d : ℕ) → z < length s.positions → z ≢ own → is_left_at s.left z ≡ true → (slice_index_or new_befores z d ≡ z) ⊎ Leads (number arcs) s.positions next (slice_index_or new_befores z d) z
  new_before z d l n h = on (cases_eq z follower)
    where
      other : z ≢ follower → (slice_index_or s.befores z d ≡ z) ⊎ Leads (number arcs) s.positions now (slice_index_or s.befores z d) z → (slice_index_or s.befores z d ≡ z) ⊎ Leads (number arcs) s.positions next (slice_index_or s.befores z d) z
      other k (inl e) = inl e
      other k (inr r) = inr (still_leads (slice_index_or s.befores z d) z (λ e. k (leads_on z (subst (λ y. Leads (number arcs) s.positions now y z) e r))) n r)

      on : (z ≡ follower) ⊎ (z ≢ follower) → (slice_index_or new_befores z d ≡ z) ⊎ Leads (number arcs) s.positions next (slice_index_or new_befores z d) z
      on (inl e) = inr (subst (λ y. Leads (number arcs) s.positions next (slice_index_or new_befores y d) y) (sym e) (subst (λ y. Leads (number arcs) s.positions next y follower) (sym (befores_same d)) new_leads))
      on (inr k) = subst (λ y. (y ≡ z) ⊎ Leads (number arcs) s.positions next y z) (sym (get_or-set_other s.befores follower z prior d k)) (other k (show.only.before z d l h))

  new_only : ShowsOnly (number arcs) s.positions lefts new_befores new_afters next
  new_only = record {
    place = λ z l h. let r = left_before s.left own z within h in still_place z r.0 (show.only.place z l r.1);
    after = λ z d l h. let r = left_before s.left own z within h in new_after z d l r.0 r.1;
    before = λ z d l h. let r = left_before s.left own z within h in new_before z d l r.0 r.1;
  }

  pub still_showing : IsShowing arcs (unlinked own s)
  still_showing = record {
    positions = show.positions;
    shows = subst (Shows (number arcs) s.positions lefts new_befores new_afters) (sym left_is) new_shows;
    only = subst (ShowsOnly (number arcs) s.positions lefts new_befores new_afters) (sym left_is) new_only;
  }
