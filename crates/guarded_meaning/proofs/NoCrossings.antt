-- Each two segments of the reduced arcs that meet badly come of two that met badly.
use Rattle.std.proofs.Common.{◌≡◌, ◌≢◌, ℕ, zero, suc, ◌<◌, ◌==◌, true, false, not, List, [], ◌∷◌, ◌++◌, length, map, ◌⊎◌, inl, inr, refl, ap, sym, ◌∙◌, subst, arith}
use Rattle.guarded_meaning.proofs.Names.{and_parts, both_ways, nat_tests, in_filter, AllByRecursion, all_of, all_right, each_of, in_left, in_right, in_append, In, joined, Point, sub_map, sub_filter, Vertex, numbered, ArcCorner, arc_corner_at, all_corners, Neighbours, neighbours_at, segment_of, all_neighbours, is_pair_of, arc_segments, without_at, left_by, HasOwnIndexes, is_free, keeps_rings, guarded_by, NoCrossingsLaw, has_length, meets_badly}
use Rattle.guarded_meaning.specs.Origins.{LiesWithin, MetBefore}
use Rattle.guarded_meaning.proofs.Lists.{passed_says}
use Rattle.guarded_meaning.proofs.Free.{Avoids, avoids, met_before}
use Rattle.guarded_meaning.proofs.Kept.{eliminate_keeps}
use Rattle.guarded_meaning.proofs.Neighbours.{AreParted, all_parted, Rises, Ascends, all_ascend}
use Rattle.guarded_meaning.proofs.Removal.{own_indexes_left, all_numbered_own}
use Rattle.guarded_meaning.proofs.Step.{bad_back}
use Rattle.guarded_meaning.proofs.Thinned.{sub_rising, numbered_rising}

-- ---- pairs of neighbours

other_way : (old : List Neighbours) (f g : Neighbours) → MetBefore old f g → MetBefore old g f
other_way old f g m = record {
  one = m.two;
  two = m.one;
  one_among = m.two_among;
  two_among = m.one_among;
  one_within = m.two_within;
  two_within = m.one_within;
  apart = λ e. m.apart (sym e);
  bad = bad_back (segment_of m.two) (segment_of m.one) m.bad;
}

-- what came of a pair comes of one around it, too
wider : (old : List Neighbours) (f g h : Neighbours) → LiesWithin f h → MetBefore old f g → MetBefore old h g
wider old f g h w m = record {
  one = m.one;
  two = m.two;
  one_among = m.one_among;
  two_among = m.two_among;
  one_within = record {
    arc = m.one_within.arc ∙ w.arc;
    start = (let x = w.start in let y = m.one_within.start in omega (arith, x, y));
    end = (let x = w.end in let y = m.one_within.end in omega (arith, x, y));
  };
  two_within = m.two_within;
  apart = m.apart;
  bad = m.bad;
}

abbrev Comes : List Neighbours → List (List Vertex) → Type 0
Comes old arcs = (f g : Neighbours) → In f (arc_segments arcs) → In g (arc_segments arcs) → f ≢ g → meets_badly (segment_of f) (segment_of g) ≡ true → MetBefore old f g

abbrev runs : Neighbours → Type 0
runs n = has_length (segment_of n) ≡ true

pub own_first : (c : ArcCorner) (a p d : _) → c ≡ arc_corner_at c.arc a p d → is_pair_of c (neighbours_at c.arc a p) ≡ true
own_first c a p d e = subst (λ (x : ArcCorner). is_pair_of x (neighbours_at c.arc a p) ≡ true) (sym e) (grind (arith, nat_tests))

pub own_second : (c : ArcCorner) (a p d : _) → c ≡ arc_corner_at c.arc a p d → is_pair_of c (neighbours_at c.arc p d) ≡ true
own_second c a p d e = subst (λ (x : ArcCorner). is_pair_of x (neighbours_at c.arc p d) ≡ true) (sym e) (grind (arith, nat_tests))

-- ---- a corner goes

module _ (old : List Neighbours) (arcs : List (List Vertex)) (c : ArcCorner) (r : AreParted arcs c) (free : is_free arcs c ≡ true) (rises : AllByRecursion Rises arcs) (comes : Comes old arcs) where
  abbrev one : Neighbours
  one = neighbours_at c.arc r.a r.p

  abbrev two : Neighbours
  two = neighbours_at c.arc r.p r.d

  abbrev made : Neighbours
  made = neighbours_at c.arc r.a r.d

  among : (n : Neighbours) → In n (r.front ++ (one ∷ (two ∷ r.back))) → In n (all_neighbours 0 arcs)
  among n m = subst (In n) (sym r.was) m

  ascends : AllByRecursion Ascends (r.front ++ (one ∷ (two ∷ r.back)))
  ascends = subst (AllByRecursion Ascends) r.was (all_ascend 0 arcs rises)

  first_rises : r.a.index < r.p.index
  first_rises = (all_right Ascends r.front (one ∷ (two ∷ r.back)) ascends).0

  second_rises : r.p.index < r.d.index
  second_rises = (all_right Ascends r.front (one ∷ (two ∷ r.back)) ascends).1.0

  one_within : LiesWithin one made
  one_within = record { arc = refl; start = omega arith; end = (let x = second_rises in omega (arith, x)) }

  two_within : LiesWithin two made
  two_within = record { arc = refl; start = (let x = first_rises in omega (arith, x)); end = omega arith }

  -- neighbours that stay
  abbrev Stays : Neighbours → Type 0
  Stays n = In n (r.front ++ (one ∷ (two ∷ r.back))) × (is_pair_of c n ≡ false) × runs n

  is_segment : (n : Neighbours) → In n (r.front ++ (one ∷ (two ∷ r.back))) → runs n → In n (arc_segments arcs)
  is_segment n m l = in_filter (λ i. has_length (segment_of i)) n (all_neighbours 0 arcs) (among n m) l

  which_of : (n : Neighbours) → runs n → In n r.front ⊎ In n (made ∷ r.back) → Stays n ⊎ (n ≡ made)
  which_of n l (inl m) = inl (in_left n r.front (one ∷ (two ∷ r.back)) m, each_of (λ i. is_pair_of c i ≡ false) r.front n r.before m, l)
  which_of n l (inr (inl e)) = inr e
  which_of n l (inr (inr m)) = inl (in_right n r.front (one ∷ (two ∷ r.back)) (inr (inr m)), each_of (λ i. is_pair_of c i ≡ false) r.back n r.after m, l)

  which : (n : Neighbours) → In n (arc_segments (left_by arcs c)) → Stays n ⊎ (n ≡ made)
  which n m =
      let k = passed_says (λ i. has_length (segment_of i)) n (all_neighbours 0 (left_by arcs c)) m in
      which_of n k.1 (in_append n r.front (made ∷ r.back) (subst (In n) r.is k.0))

  not_same : (n m : Neighbours) → is_pair_of c n ≡ true → is_pair_of c m ≡ false → n ≢ m
  not_same n m h k e = both_ways (is_pair_of c m) k (ap (is_pair_of c) (sym e) ∙ h)

  new_met : (g : Neighbours) → Stays g → runs made → meets_badly (segment_of made) (segment_of g) ≡ true → MetBefore old made g
  new_met g s l h = on (met_before (arc_corner_at c.arc r.a r.p r.d) g (subst (λ (x : ArcCorner). Avoids x g) r.at (avoids arcs c free g (among g s.0) s.1)) l h)
    where
      on : (runs one × (meets_badly (segment_of one) (segment_of g) ≡ true)) ⊎ (runs two × (meets_badly (segment_of two) (segment_of g) ≡ true)) → MetBefore old made g
      on (inl k) = wider old one g made one_within (comes one g (is_segment one (in_right one r.front (one ∷ (two ∷ r.back)) (inl refl)) k.0)
          (is_segment g s.0 s.2) (not_same one g (own_first c r.a r.p r.d r.at) s.1) k.1)
      on (inr k) = wider old two g made two_within (comes two g (is_segment two (in_right two r.front (one ∷ (two ∷ r.back)) (inr (inl refl))) k.0)
          (is_segment g s.0 s.2) (not_same two g (own_second c r.a r.p r.d r.at) s.1) k.1)

  comes_left : Comes old (left_by arcs c)
  comes_left f g m n apart h = on (which f m) (which g n)
    where
      length_of : (i : Neighbours) → In i (arc_segments (left_by arcs c)) → runs i
      length_of i k = (passed_says (λ x. has_length (segment_of x)) i (all_neighbours 0 (left_by arcs c)) k).1

      on : Stays f ⊎ (f ≡ made) → Stays g ⊎ (g ≡ made) → MetBefore old f g
      on (inl s) (inl u) = comes f g (is_segment f s.0 s.2) (is_segment g u.0 u.2) apart h
      on (inr e) (inl u) = subst (λ (x : Neighbours). MetBefore old x g) (sym e)
          (new_met g u (subst runs e (length_of f m)) (subst (λ (x : Neighbours). meets_badly (segment_of x) (segment_of g) ≡ true) e h))
      on (inl s) (inr e) = subst (λ (x : Neighbours). MetBefore old f x) (sym e) (other_way old made f
          (new_met f s (subst runs e (length_of g n)) (subst (λ (x : Neighbours). meets_badly (segment_of x) (segment_of f) ≡ true) e (bad_back (segment_of g) (segment_of f) h))))
      on (inr e) (inr k) = absurd (apart (e ∙ sym k))

-- ---- all steps

rises_left : (k i : ℕ) (arcs : List (List Vertex)) → AllByRecursion Rises arcs → AllByRecursion Rises (without_at k i arcs)
rises_left k i [] h = tt
rises_left zero i (vs ∷ arcs) h = (sub_rising (sub_map (λ v. v.index) (sub_filter (λ v. not (v.index == i)) vs)) h.0, h.1)
rises_left (suc k) i (vs ∷ arcs) h = (h.0, rises_left k i arcs h.1)

pub all_numbered_rise : (arcs : List (List Point)) → AllByRecursion Rises (map (numbered 0) arcs)
all_numbered_rise [] = tt
all_numbered_rise (ps ∷ arcs) = (numbered_rising 0 ps, all_numbered_rise arcs)

abbrev IsSound : List Neighbours → List (List Vertex) → Type 0
IsSound old arcs = Comes old arcs × AllByRecursion HasOwnIndexes arcs × AllByRecursion Rises arcs

sound_step : (rings : _) (old : List Neighbours) (arcs : List (List Vertex)) → IsSound old arcs → AllByRecursion (λ c. guarded_by true rings arcs c ≡ true → IsSound old (left_by arcs c)) (all_corners 0 arcs)
sound_step rings old arcs h = all_of (λ c. guarded_by true rings arcs c ≡ true → IsSound old (left_by arcs c)) (all_corners 0 arcs) (λ c m g. (
  comes_left old arcs c (each_of (AreParted arcs) (all_corners 0 arcs) c (all_parted arcs h.1) m) (and_parts (is_free arcs c) (keeps_rings rings arcs c) g).0 h.2 h.0,
  own_indexes_left c.arc c.corner.index arcs h.1,
  rises_left c.arc c.corner.index arcs h.2,
))

at_first : (old : List (List Vertex)) → Comes (arc_segments old) old
at_first old f g m n apart h = record {
  one = f;
  two = g;
  one_among = m;
  two_among = n;
  one_within = record { arc = refl; start = omega arith; end = omega arith };
  two_within = record { arc = refl; start = omega arith; end = omega arith };
  apart = apart;
  bad = h;
}

pub no_crossings_law : NoCrossingsLaw
no_crossings_law rings t arcs f g m n apart h =
    (eliminate_keeps (guarded_by true rings) t (IsSound (arc_segments (map (numbered 0) arcs))) (sound_step rings (arc_segments (map (numbered 0) arcs))) (length (joined arcs)) (map (numbered 0) arcs)
    (at_first (map (numbered 0) arcs), all_numbered_own arcs, all_numbered_rise arcs)).0 f g m n apart h
