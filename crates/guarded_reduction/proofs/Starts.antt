-- The places of whole arcs are linked as their positions follow one another.
use Rattle.std.proofs.Common.{◌≡◌, ℕ, zero, suc, ◌+◌, ◌-◌, ◌<◌, ◌≤◌, ◌^◌, min, Bool, true, false, List, [], ◌∷◌, length, length-append, map, replicate, slice_index, slice_index_or, refl, ap, sym, ◌∙◌, subst, ◌⊎◌, inl, inr, arith}
use Rattle.std.proofs.lemmas.Bool.{cases_lt}
use Rattle.std.proofs.lemmas.List.{get_or_append_left, get_or-append_right, get_or-replicate, length-replicate}
use Rattle.std.proofs.lemmas.List.FromFn.{get_or-map-range_with_len, length-map-range_with_len}
use Rattle.owned_values.proofs.Elements.{each_of}
use Rattle.geometry.specs.Lists.{In, joined}
use Rattle.geometry.specs.Points.{Point}
use Rattle.elimination_meaning.specs.Elimination.{Vertex, numbered}
use Rattle.guarded_meaning.specs.Arcs.{Place, place_at, places, Neighbours, neighbours_at, all_neighbours}
use Rattle.guarded_meaning.specs.Elimination.{Guard, eliminate_arcs, remaining_arcs}
use Rattle.guarded_meaning.proofs.Neighbours.{AreAmong, all_among}
use Rattle.guarded_reduction.specs.Indexes.{is_left_at, point_at}
use Rattle.guarded_reduction.specs.Laws.{IsLinked, IsPlace, IsShown, Leads, Shows, ShowsOnly}
use Rattle.guarded_reduction.specs.First.{Neighbour, after_index, arc_links, before_index, first_linked, links_of}
use Rattle.guarded_reduction.specs.Linking.{Linked, IsShowing, IsWhole}
use Rattle.guarded_reduction.specs.Numbers.{number, HasPlace, left_arcs}
use Rattle.guarded_reduction.proofs.Numbers.{IsNumber, earlier_place, number_within, which_place}
use Rattle.guarded_reduction.proofs.Placed.{in_neighbours, in_places, passing_when, placed, successive, vertex_of}

-- ---- how many places an arc has

abbrev pub size_of : List (List Point) → ℕ → ℕ
size_of [] k = 0
size_of (ps ∷ arcs) zero = length ps
size_of (ps ∷ arcs) (suc k) = size_of arcs k

pub within_size : (arcs : List (List Point)) (k i : ℕ) → HasPlace arcs k i → i < size_of arcs k
within_size [] k i h = elim h [ ]
within_size (ps ∷ arcs) zero i h = h
within_size (ps ∷ arcs) (suc k) i h = within_size arcs k i h

has_within : (arcs : List (List Point)) (k i : ℕ) → i < size_of arcs k → HasPlace arcs k i
has_within [] k i h = absurd (omega (arith, h))
has_within (ps ∷ arcs) zero i h = h
has_within (ps ∷ arcs) (suc k) i h = has_within arcs k i h

-- ---- links

pub links_many : (neighbour : Neighbour) (o : ℕ) (arcs : List (List Point)) → length (links_of neighbour o arcs) ≡ length (joined arcs)
links_many neighbour o [] = refl
links_many neighbour o (ps ∷ arcs) =
    length-append (arc_links neighbour o (length ps)) (links_of neighbour (o + length ps) arcs) ∙ ap (λ n. n + length (links_of neighbour (o + length ps) arcs)) (length-map-range_with_len (λ i. o + neighbour (length ps) i) 0 (length ps))
    ∙ ap (λ n. length ps + n) (links_many neighbour (o + length ps) arcs) ∙ sym (length-append ps (joined arcs))

pub links_at : (neighbour : Neighbour) (o : ℕ) (arcs : List (List Point)) (k i d : ℕ) → HasPlace arcs k i → slice_index_or (links_of neighbour o arcs) (number arcs k i) d ≡ o + number arcs k (neighbour (size_of arcs k) i)
links_at neighbour o [] k i d h = elim h [ ]
links_at neighbour o (ps ∷ arcs) zero i d h =
    get_or_append_left (arc_links neighbour o (length ps)) (links_of neighbour (o + length ps) arcs) d i (omega (arith, h, length-map-range_with_len (λ j. o + neighbour (length ps) j) 0 (length ps)))
    ∙ get_or-map-range_with_len (λ j. o + neighbour (length ps) j) 0 (length ps) i i d h (omega arith)
links_at neighbour o (ps ∷ arcs) (suc k) i d h =
    let z : (length ps + number arcs k i) - length ps ≡ number arcs k i = omega arith in
    let e : (o + length ps) + number arcs k (neighbour (size_of arcs k) i) ≡ o + (length ps + number arcs k (neighbour (size_of arcs k) i)) = omega arith in
    get_or-append_right (arc_links neighbour o (length ps)) (links_of neighbour (o + length ps) arcs) (length ps) (length ps + number arcs k i) d (length-map-range_with_len (λ j. o + neighbour (length ps) j) 0 (length ps)) (omega arith)
    ∙ ap (λ n. slice_index_or (links_of neighbour (o + length ps) arcs) n d) z ∙ links_at neighbour (o + length ps) arcs k i d h ∙ e

module _ (no_crossings : Bool) (arcs : List (List Point)) where
  abbrev whole_arcs : List (List Vertex)
  whole_arcs = map (numbered 0) arcs

  abbrev first : Linked
  first = first_linked no_crossings arcs

  before_at : (k i d : ℕ) → HasPlace arcs k i → slice_index_or first.befores (number arcs k i) d ≡ number arcs k (i - 1)
  before_at k i d h = let e : 0 + number arcs k (i - 1) ≡ number arcs k (i - 1) = omega arith in links_at before_index 0 arcs k i d h ∙ e

  after_at : (k i j d : ℕ) → HasPlace arcs k i → min (i + 1) (size_of arcs k - 1) ≡ j → slice_index_or first.afters (number arcs k i) d ≡ number arcs k j
  after_at k i j d h q = let e : 0 + number arcs k (min (i + 1) (size_of arcs k - 1)) ≡ number arcs k (min (i + 1) (size_of arcs k - 1)) = omega arith in
      links_at after_index 0 arcs k i d h ∙ e ∙ ap (number arcs k) q

  left_first : (z : ℕ) → z < length (joined arcs) → is_left_at first.left z ≡ true
  unfolding is_left_at
  left_first z h = get_or-replicate (length (joined arcs)) z true _ h

  there : (x : Place) → In x (places 0 whole_arcs) → HasPlace arcs x.arc x.vertex.index × (x.vertex.point ≡ point_at (joined arcs) (number arcs x.arc x.vertex.index))
  there x m =
      let r = placed 0 arcs x m in
      let e : r.m ≡ x.arc = omega (arith, r.arc) in
      (subst (λ k. HasPlace arcs k x.vertex.index) e r.there, r.point ∙ ap (λ k. point_at (joined arcs) (number arcs k x.vertex.index)) e)

  pub all_left : left_arcs arcs first.left ≡ whole_arcs
  all_left = passing_when (λ x. is_left_at first.left (number arcs x.arc x.vertex.index)) 0 whole_arcs (λ x m. left_first (number arcs x.arc x.vertex.index) (number_within arcs x.arc x.vertex.index (there x m).0))

  shown : (x : Place) → In x (places 0 whole_arcs) → IsShown (joined arcs) first.left (number arcs x.arc x.vertex.index) x.vertex.point
  shown x m =
      let w = number_within arcs x.arc x.vertex.index (there x m).0 in
      record { within = w; left = left_first (number arcs x.arc x.vertex.index) w; point = sym (there x m).1 }

  linked : (j : Neighbours) → In j (all_neighbours 0 whole_arcs) → IsLinked (joined arcs) first.left first.befores first.afters (number arcs j.arc j.from.index) (number arcs j.arc j.to.index) j.from.point j.to.point
  linked j m =
      let a = each_of (AreAmong (places 0 whole_arcs)) (all_neighbours 0 whole_arcs) j (all_among 0 whole_arcs) m in
      let n : j.to.index ≡ j.from.index + 1 = each_of (λ (p : Neighbours). p.to.index ≡ p.from.index + 1) (all_neighbours 0 whole_arcs) j (successive 0 arcs) m in
      let from : HasPlace arcs j.arc j.from.index = (there (place_at j.arc j.from) a.0).0 in
      let to : HasPlace arcs j.arc j.to.index = (there (place_at j.arc j.to) a.1).0 in
      let size : j.to.index < size_of arcs j.arc = within_size arcs j.arc j.to.index to in
      let e : j.to.index - 1 ≡ j.from.index = omega (arith, n) in
      record {
        from = shown (place_at j.arc j.from) a.0;
        to = shown (place_at j.arc j.to) a.1;
        after = λ d. after_at j.arc j.from.index j.to.index d from (omega (arith, n, size));
        before = λ d. before_at j.arc j.to.index d to ∙ ap (number arcs j.arc) e;
      }

  leads_next : (k i : ℕ) → HasPlace arcs k (suc i) → Leads (number arcs) (joined arcs) whole_arcs (number arcs k i) (number arcs k (suc i))
  leads_next k i h = record {
    pair = neighbours_at k (vertex_of arcs k i) (vertex_of arcs k (suc i));
    there = in_neighbours 0 arcs k i k (omega arith) h;
    from = refl;
    to = refl;
    from_point = refl;
    to_point = refl;
  }

  place_at_number : (z : ℕ) → IsNumber arcs z → IsPlace (number arcs) (joined arcs) whole_arcs z
  place_at_number z r = record { place = place_at r.arc (vertex_of arcs r.arc r.index); there = in_places 0 arcs r.arc r.index r.arc (omega arith) r.there; number_is = r.is; point = ap (point_at (joined arcs)) (sym r.is) }

  after_of : (z d : ℕ) → IsNumber arcs z → (slice_index_or first.afters z d ≡ z) ⊎ Leads (number arcs) (joined arcs) whole_arcs z (slice_index_or first.afters z d)
  after_of z d r = subst (λ y. (slice_index_or first.afters y d ≡ y) ⊎ Leads (number arcs) (joined arcs) whole_arcs y (slice_index_or first.afters y d)) r.is (on (cases_lt (suc r.index) (size_of arcs r.arc)))
    where
      on : (suc r.index < size_of arcs r.arc) ⊎ (size_of arcs r.arc ≤ suc r.index) →
          (slice_index_or first.afters (number arcs r.arc r.index) d ≡ number arcs r.arc r.index) ⊎ Leads (number arcs) (joined arcs) whole_arcs (number arcs r.arc r.index) (slice_index_or first.afters (number arcs r.arc r.index) d)
      on (inl l) = inr (subst (Leads (number arcs) (joined arcs) whole_arcs (number arcs r.arc r.index)) (sym (after_at r.arc r.index (suc r.index) d r.there (omega (arith, l)))) (leads_next r.arc r.index (has_within arcs r.arc (suc r.index) l)))
      on (inr l) = inl (after_at r.arc r.index r.index d r.there (omega (arith, l, within_size arcs r.arc r.index r.there)))

  before_of : (z d : ℕ) → IsNumber arcs z → (slice_index_or first.befores z d ≡ z) ⊎ Leads (number arcs) (joined arcs) whole_arcs (slice_index_or first.befores z d) z
  before_of z d r = subst (λ y. (slice_index_or first.befores y d ≡ y) ⊎ Leads (number arcs) (joined arcs) whole_arcs (slice_index_or first.befores y d) y) r.is (on (cases_lt 0 r.index))
    where
      on : (0 < r.index) ⊎ (r.index ≤ 0) →
          (slice_index_or first.befores (number arcs r.arc r.index) d ≡ number arcs r.arc r.index) ⊎ Leads (number arcs) (joined arcs) whole_arcs (slice_index_or first.befores (number arcs r.arc r.index) d) (number arcs r.arc r.index)
      on (inl l) =
          let e : suc (r.index - 1) ≡ r.index = omega (arith, l) in
          inr (subst (λ y. Leads (number arcs) (joined arcs) whole_arcs y (number arcs r.arc r.index)) (sym (before_at r.arc r.index d r.there))
          (subst (λ i. Leads (number arcs) (joined arcs) whole_arcs (number arcs r.arc (r.index - 1)) (number arcs r.arc i)) e (leads_next r.arc (r.index - 1) (subst (HasPlace arcs r.arc) (sym e) r.there))))
      on (inr l) = let e : r.index - 1 ≡ r.index = omega (arith, l) in inl (before_at r.arc r.index d r.there ∙ ap (number arcs r.arc) e)

  shows : Shows (number arcs) (joined arcs) first.left first.befores first.afters whole_arcs
  shows = record { place = shown; pair = linked }

  only : ShowsOnly (number arcs) (joined arcs) first.left first.befores first.afters whole_arcs
  only = record {
    place = λ z l _. place_at_number z (which_place arcs z l);
    after = λ z d l _. after_of z d (which_place arcs z l);
    before = λ z d l _. before_of z d (which_place arcs z l);
  }

  pub first_showing : IsShowing arcs first
  first_showing = record {
    positions = refl;
    shows = subst (Shows (number arcs) (joined arcs) first.left first.befores first.afters) (sym all_left) shows;
    only = subst (ShowsOnly (number arcs) (joined arcs) first.left first.befores first.afters) (sym all_left) only;
  }

  before_within : (z : ℕ) → IsNumber arcs z → slice_index first.befores z < length (joined arcs)
  before_within z r =
      let e : slice_index first.befores z ≡ number arcs r.arc (r.index - 1) = ap (λ y. slice_index first.befores y) (sym r.is) ∙ before_at r.arc r.index 0 r.there in
      let w = number_within arcs r.arc (r.index - 1) (earlier_place arcs r.arc r.index (r.index - 1) (omega arith) r.there) in
      omega (arith, e, w)

  after_within : (z : ℕ) → IsNumber arcs z → slice_index first.afters z < length (joined arcs)
  after_within z r =
      let l = within_size arcs r.arc r.index r.there in
      let e : slice_index first.afters z ≡ number arcs r.arc (min (r.index + 1) (size_of arcs r.arc - 1)) = ap (λ y. slice_index first.afters y) (sym r.is) ∙ after_at r.arc r.index (min (r.index + 1) (size_of arcs r.arc - 1)) 0 r.there refl in
      let w = number_within arcs r.arc (min (r.index + 1) (size_of arcs r.arc - 1)) (has_within arcs r.arc (min (r.index + 1) (size_of arcs r.arc - 1)) (omega (arith, l))) in
      omega (arith, e, w)

  pub first_whole : length (joined arcs) < 2 ^ 32 → IsWhole first
  first_whole few = record {
    few = few;
    left = length-replicate (length (joined arcs)) true;
    befores = links_many before_index 0 arcs;
    afters = links_many after_index 0 arcs;
    before = λ z l. before_within z (which_place arcs z l);
    after = λ z l. after_within z (which_place arcs z l);
    fixed = length-replicate (length (joined arcs)) false;
  }

-- the lists as they are made
abbrev pub linked_of : List Point → List Bool → List ℕ → List ℕ → Bool → List Bool → Linked
linked_of ps ls bs cs b fs = record { positions = ps; left = ls; befores = bs; afters = cs; no_crossings = b; fixed = fs }

pub first_is : (b : Bool) (arcs : List (List Point)) (ps : List Point) (ls : List Bool) (bs cs : List ℕ) (fs : List Bool) → ps ≡ joined arcs → ls ≡ replicate (length ps) true → bs ≡ links_of before_index 0 arcs →
    cs ≡ links_of after_index 0 arcs → fs ≡ replicate (length ps) false → linked_of ps ls bs cs b fs ≡ first_linked b arcs
first_is b arcs ps ls bs cs fs e f g h i =
    ap (λ l. linked_of ps l bs cs b fs) (f ∙ ap (λ (qs : List Point). replicate (length qs) true) e) ∙ ap (λ l. linked_of ps (replicate (length (joined arcs)) true) bs cs b l) (i ∙ ap (λ (qs : List Point). replicate (length qs) false) e)
    ∙ ap (λ qs. linked_of qs (replicate (length (joined arcs)) true) bs cs b (replicate (length (joined arcs)) false)) e
    ∙ ap (λ l. linked_of (joined arcs) (replicate (length (joined arcs)) true) l cs b (replicate (length (joined arcs)) false)) g
    ∙ ap (λ l. linked_of (joined arcs) (replicate (length (joined arcs)) true) (links_of before_index 0 arcs) l b (replicate (length (joined arcs)) false)) h

-- reduction begins with whole arcs, and has a step for each place
pub begins : (guard : Guard) (t : ℕ) (b : Bool) (arcs : List (List Point)) (s : Linked) (n : ℕ) → s ≡ first_linked b arcs → n ≡ length s.positions → eliminate_arcs guard (n - 0) t (left_arcs arcs s.left) ≡ remaining_arcs guard t arcs
begins guard t b arcs s n e m =
    let many : n - 0 ≡ length (joined arcs) = omega (arith, m, ap (λ (x : Linked). length x.positions) e) in
    ap (λ k. eliminate_arcs guard k t (left_arcs arcs s.left)) many ∙ ap (eliminate_arcs guard (length (joined arcs)) t) (ap (λ (x : Linked). left_arcs arcs x.left) e ∙ all_left b arcs)
