-- No more pairs of segments meet badly when a corner that is free goes.
use Rattle.std.proofs.Common.{◌≡◌, ℕ, ◌+◌, ◌≤◌, Bool, true, false, List, [], ◌∷◌, ◌++◌, length, map, ◌⊎◌, inl, inr, refl, ap, sym, ◌∙◌, subst, if◌then◌else◌, arith}
use Rattle.guarded_meaning.proofs.Names.{and_parts, not-false, true≢false, length-append, map-append, filter-append, AllByRecursion, filter, all_of, all_made, each_of, in_left, in_right, same_is, In, joined, Point, same, sub_same, sub_chain, Vertex, numbered, Sublist, none, keep, skip, ArcCorner, arc_corner_at, all_corners, Neighbours, neighbours_at, segment_of, all_neighbours, is_pair_of, arc_segments, segments, crossings, left_by, points_of, HasOwnIndexes, remaining_arcs, reduced_arcs, is_free, keeps_rings, guarded_by, CrossingsNeverRise, NoneStaysNone, FewerArcsLaw, Segment, segment, line_segments, has_length, meets_badly, bad_pairs}
use Rattle.elimination_meaning.proofs.Higher.{sub_length}
use Rattle.guarded_meaning.proofs.Lists.{passed_says, filter_map, sub_right, sub_both, sub_passed}
use Rattle.guarded_meaning.proofs.Free.{Avoids, avoids, met_before}
use Rattle.guarded_meaning.proofs.Kept.{eliminate_keeps, points_numbered}
use Rattle.guarded_meaning.proofs.Neighbours.{AreParted, all_parted, all_segments, segments_are}
use Rattle.guarded_meaning.proofs.Removal.{own_indexes_left, all_numbered_own}
use Rattle.guarded_meaning.proofs.Step.{bad_back}

-- how many of them the segment meets badly
abbrev met : Segment → List Segment → ℕ
met s ss = length (filter (meets_badly s) ss)

-- ---- fewer segments

met_fewer : (s : Segment) {xs ys : List Segment} → Sublist xs ys → met s xs ≤ met s ys
met_fewer s h = sub_length (sub_passed (meets_badly s) h)

pairs_fewer : {xs ys : List Segment} → Sublist xs ys → bad_pairs xs ≤ bad_pairs ys
pairs_fewer none = omega arith
pairs_fewer (keep {x} h) = let k = met_fewer x h in let l = pairs_fewer h in omega (arith, k, l)
pairs_fewer (skip h) = let l = pairs_fewer h in omega (arith, l)

-- ---- two give way to one

met_append : (s : Segment) (xs ys : List Segment) → met s (xs ++ ys) ≡ met s xs + met s ys
met_append s xs ys = ap length (filter-append (meets_badly s) xs ys) ∙ length-append (filter (meets_badly s) xs) (filter (meets_badly s) ys)

module _ (made one two : Segment) where
  -- what the new segment meets badly, one of the two did
  abbrev Met : Segment → Type 0
  Met s = meets_badly made s ≡ true → (meets_badly one s ≡ true) ⊎ (meets_badly two s ≡ true)

  after_one : (x y z : Bool) (s : Segment) (xs ys zs : List Segment) → (x ≡ true → (y ≡ true) ⊎ (z ≡ true)) → length xs ≤ length ys + length zs →
      length (if x then s ∷ xs else xs) ≤ length (if y then s ∷ ys else ys) + length (if z then s ∷ zs else zs)
  after_one x y z s xs ys zs f h = grind arith

  after : (ss : List Segment) → AllByRecursion Met ss → met made ss ≤ met one ss + met two ss
  after [] h = omega arith
  after (s ∷ ss) h = after_one (meets_badly made s) (meets_badly one s) (meets_badly two s) s (filter (meets_badly made) ss) (filter (meets_badly one) ss) (filter (meets_badly two) ss) h.0 (after ss h.1)

  before_one : (x y z : Bool) (ss : List Segment) → (x ≡ true → (y ≡ true) ⊎ (z ≡ true)) →
      length (if x then made ∷ ss else ss) ≤ length (if y then one ∷ (if z then two ∷ ss else ss) else (if z then two ∷ ss else ss))
  before_one x y z ss f = grind arith

  turned : (s : Segment) → Met s → meets_badly s made ≡ true → (meets_badly s one ≡ true) ⊎ (meets_badly s two ≡ true)
  turned s f h = grind (arith, bad_back made s, bad_back s one, bad_back s two)

  before : (s : Segment) (ss : List Segment) → Met s → met s (made ∷ ss) ≤ met s (one ∷ (two ∷ ss))
  before s ss f = before_one (meets_badly s made) (meets_badly s one) (meets_badly s two) (filter (meets_badly s) ss) (turned s f)

  pub fewer : (ss ts : List Segment) → AllByRecursion Met ss → AllByRecursion Met ts → bad_pairs (ss ++ (made ∷ ts)) ≤ bad_pairs (ss ++ (one ∷ (two ∷ ts)))
  fewer [] ts h k =
      let m = after ts k in
      let n = met_fewer one (skip {y = two} (sub_same ts)) in
      omega (arith, m, n)
  fewer (s ∷ ss) ts h k =
      let m = before s ts h.0 in
      let n = fewer ss ts h.1 k in
      omega (arith, m, n, met_append s ss (made ∷ ts), met_append s ss (one ∷ (two ∷ ts)))

-- ---- a corner goes

abbrev runs : Neighbours → Bool
runs n = has_length (segment_of n)

-- how many pairs of the segments of these arcs meet badly
abbrev count_of : List (List Vertex) → ℕ
count_of arcs = bad_pairs (map segment_of (arc_segments arcs))

module _ (arcs : List (List Vertex)) (c : ArcCorner) (r : AreParted arcs c) (free : is_free arcs c ≡ true) where
  abbrev one : Neighbours
  one = neighbours_at c.arc r.a r.p

  abbrev two : Neighbours
  two = neighbours_at c.arc r.p r.d

  abbrev made : Neighbours
  made = neighbours_at c.arc r.a r.d

  abbrev Stays : Neighbours → Type 0
  Stays n = In n (r.front ++ (one ∷ (two ∷ r.back))) × (is_pair_of c n ≡ false)

  stays_met : runs made ≡ true → (n : Neighbours) → Stays n → Met (segment_of made) (segment_of one) (segment_of two) (segment_of n)
  stays_met l n s h = elim (met_before (arc_corner_at c.arc r.a r.p r.d) n (subst (λ (x : ArcCorner). Avoids x n) r.at (avoids arcs c free n (subst (In n) (sym r.was) s.0) s.1)) l h) [ inl k ↦ inl k.1 | inr k ↦ inr k.1 ]

  abbrev front : List Segment
  front = map segment_of (filter runs r.front)

  abbrev back : List Segment
  back = map segment_of (filter runs r.back)

  side_met : runs made ≡ true → (ns : List Neighbours) → ((n : Neighbours) → In n ns → Stays n) → AllByRecursion (Met (segment_of made) (segment_of one) (segment_of two)) (map segment_of (filter runs ns))
  side_met l ns f = all_made (Met (segment_of made) (segment_of one) (segment_of two)) segment_of (filter runs ns) (λ n m. stays_met l n (f n (passed_says runs n ns m).0))

  abbrev Fewer : Bool → Bool → Bool → Type 0
  Fewer x y z = bad_pairs (front ++ map segment_of (if x then made ∷ filter runs r.back else filter runs r.back))
      ≤ bad_pairs (front ++ map segment_of (if y then one ∷ (if z then two ∷ filter runs r.back else filter runs r.back) else (if z then two ∷ filter runs r.back else filter runs r.back)))

  middle : (x y z : Bool) → runs made ≡ x → runs one ≡ y → runs two ≡ z → Fewer x y z
  middle false true true e f g = pairs_fewer (sub_both (sub_same front) (skip (skip (sub_same back))))
  middle false true false e f g = pairs_fewer (sub_both (sub_same front) (skip (sub_same back)))
  middle false false true e f g = pairs_fewer (sub_both (sub_same front) (skip (sub_same back)))
  middle false false false e f g = pairs_fewer (sub_same (front ++ back))
  middle true true true e f g = fewer (segment_of made) (segment_of one) (segment_of two) front back
      (side_met e r.front (λ n m. (in_left n r.front (one ∷ (two ∷ r.back)) m, each_of (λ i. is_pair_of c i ≡ false) r.front n r.before m)))
      (side_met e r.back (λ n m. (in_right n r.front (one ∷ (two ∷ r.back)) (inr (inr m)), each_of (λ i. is_pair_of c i ≡ false) r.back n r.after m)))
  middle true false true e f g = let k = same_is r.a.point r.p.point (not-false (same r.a.point r.p.point) f) in
      subst (λ (x : Point). bad_pairs (front ++ (segment_of made ∷ back)) ≤ bad_pairs (front ++ (segment x r.d.point ∷ back))) k (pairs_fewer (sub_same (front ++ (segment_of made ∷ back))))
  middle true true false e f g = let k = same_is r.p.point r.d.point (not-false (same r.p.point r.d.point) g) in
      subst (λ (x : Point). bad_pairs (front ++ (segment_of made ∷ back)) ≤ bad_pairs (front ++ (segment r.a.point x ∷ back))) (sym k) (pairs_fewer (sub_same (front ++ (segment_of made ∷ back))))
  middle true false false e f g =
      let k = same_is r.a.point r.p.point (not-false (same r.a.point r.p.point) f) in
      absurd (true≢false (sym e ∙ subst (λ (x : Point). has_length (segment x r.d.point) ≡ false) (sym k) g))

  parted_count : (ns : List Neighbours) → map segment_of (filter runs (r.front ++ ns)) ≡ front ++ map segment_of (filter runs ns)
  parted_count ns = ap (map segment_of) (filter-append runs r.front ns) ∙ map-append segment_of (filter runs r.front) (filter runs ns)

  pub count_left : count_of (left_by arcs c) ≤ count_of arcs
  count_left =
      let new = ap (λ ns. bad_pairs (map segment_of (filter runs ns))) r.is ∙ ap bad_pairs (parted_count (made ∷ r.back)) in
      let old = ap (λ ns. bad_pairs (map segment_of (filter runs ns))) r.was ∙ ap bad_pairs (parted_count (one ∷ (two ∷ r.back))) in
      let m = middle (runs made) (runs one) (runs two) refl refl refl in
      omega (arith, new, old, m)

-- ---- all steps

abbrev IsSound : ℕ → List (List Vertex) → Type 0
IsSound most arcs = (count_of arcs ≤ most) × AllByRecursion HasOwnIndexes arcs

sound_step : (rings : _) (most : ℕ) (arcs : List (List Vertex)) → IsSound most arcs → AllByRecursion (λ c. guarded_by true rings arcs c ≡ true → IsSound most (left_by arcs c)) (all_corners 0 arcs)
sound_step rings most arcs h = all_of (λ c. guarded_by true rings arcs c ≡ true → IsSound most (left_by arcs c)) (all_corners 0 arcs) (λ c m g.
    let k = count_left arcs c (each_of (AreParted arcs) (all_corners 0 arcs) c (all_parted arcs h.1) m) (and_parts (is_free arcs c) (keeps_rings rings arcs c) g).0 in
    (omega (arith, k, h.0), own_indexes_left c.arc c.corner.index arcs h.1))

-- the segments of arcs, by their positions alone
by_points : (arcs : List (List Vertex)) → map segment_of (arc_segments arcs) ≡ filter has_length (all_segments (points_of arcs))
by_points arcs = sym (filter_map has_length segment_of (all_neighbours 0 arcs)) ∙ ap (filter has_length) (segments_are 0 arcs)

pub segments_by_points : (arcs : List (List Point)) → segments arcs ≡ filter has_length (all_segments arcs)
segments_by_points arcs = by_points (map (numbered 0) arcs) ∙ ap (λ pss. filter has_length (all_segments pss)) (points_numbered arcs)

count_points : (arcs : List (List Vertex)) → crossings (points_of arcs) ≡ count_of arcs
count_points arcs = ap bad_pairs (segments_by_points (points_of arcs) ∙ sym (by_points arcs))

pub crossings_never_rise : CrossingsNeverRise
unfolding reduced_arcs
crossings_never_rise rings t arcs =
    let k = (eliminate_keeps (guarded_by true rings) t (IsSound (crossings arcs)) (sound_step rings (crossings arcs)) (length (joined arcs)) (map (numbered 0) arcs) (omega arith, all_numbered_own arcs)).0 in
    omega (arith, k, count_points (remaining_arcs (guarded_by true rings) t arcs))

pub none_stays_none : NoneStaysNone
none_stays_none rings t arcs h = let k = crossings_never_rise rings t arcs in omega (arith, k, h)

-- ---- fewer arcs

fewer_segments : {few arcs : List (List Point)} → Sublist few arcs → Sublist (all_segments few) (all_segments arcs)
fewer_segments none = none
fewer_segments (keep {x} s) = sub_both (sub_same (line_segments x)) (fewer_segments s)
fewer_segments (skip {y} {xs} {ys} s) = sub_chain (fewer_segments s) (sub_right (line_segments y) (all_segments ys))

pub fewer_arcs_law : FewerArcsLaw
fewer_arcs_law few arcs s =
    let k = pairs_fewer (sub_passed has_length (fewer_segments s)) in
    omega (arith, k, ap bad_pairs (segments_by_points few), ap bad_pairs (segments_by_points arcs))
