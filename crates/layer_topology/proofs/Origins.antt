-- From where segments come that meet badly, of what is left of a topology where no crossing may be made; with a worked row in whole units.
use Rattle.std.proofs.Common.{◌≡◌, ℕ, suc, ℤ, pos, Bool, true, false, cond, List, [], ◌∷◌, ◌++◌, map, inl, inr, refl, ap, sym, ◌∙◌, subst, append-nil, arith}
use Rattle.std.proofs.lemmas.List.{map-append}
use Rattle.std.proofs.lemmas.List.Elements.{filter-append}
use Rattle.std.specs.List.{filter}
use Rattle.build_meaning.specs.Trimming.{is_used, keep_from}
use Rattle.elimination_meaning.specs.Elimination.{Vertex, numbered}
use Rattle.geometry.specs.Areas.{cross, twice_area}
use Rattle.geometry.specs.Points.{Point}
use Rattle.geometry.specs.Rings.{same}
use Rattle.guarded_meaning.specs.Arcs.{Neighbours, neighbours_at, segment_of, neighbours_from, neighbours, all_neighbours, arc_segments, segments, points_of}
use Rattle.guarded_meaning.specs.Elimination.{goes_before, remaining_arcs, reduced_arcs}
use Rattle.guarded_meaning.specs.Guards.{guarded_by, is_free, keeps_rings}
use Rattle.guarded_meaning.specs.Laws.{NoCrossingsLaw}
use Rattle.guarded_meaning.specs.Origins.{MetBefore}
use Rattle.guarded_meaning.specs.Segments.{line_segments, has_length, is_on, touches, separates, crosses, same_ends, meets_badly}
use Rattle.guarded_meaning.specs.Triangles.{in_triangle}
use Rattle.guarded_meaning.proofs.Counts.{segments_by_points}
use Rattle.guarded_meaning.proofs.Lists.{filter_map}
use Rattle.guarded_meaning.proofs.Neighbours.{all_segments, segments_are}
use Rattle.guarded_meaning.proofs.Thinned.{remaining_thinned}
use Rattle.layer_topology.specs.Promises.{HasOrigins}
use Rattle.build_meaning.specs.ArcPositions.{arc_positions}
use Rattle.build_meaning.specs.Left.{left_indexes, left_of, protection_of, rings_to_stay}
use Rattle.build_meaning.specs.LeftLaws.{LeftArcsAreReduced}
use Rattle.build_meaning.specs.Protected.{spared_whole}
use Rattle.build_meaning.specs.declared.guards.Guards.{Guards}
use Rattle.topojson_types.specs.Topologies.{Contents}

-- ---- the segments of some of the arcs

module _ (stays : ℕ → Bool) where
  abbrev of_kept : Neighbours → Bool
  of_kept n = stays n.arc

  abbrev runs : Neighbours → Bool
  runs n = has_length (segment_of n)

  module _ (n : Neighbours) (more : List Neighbours) where
    stays_in_front : stays n.arc ≡ true → (r : Bool) → filter of_kept more ≡ more → filter of_kept (cond r (n ∷ more) more) ≡ cond r (n ∷ more) more
    stays_in_front s true e = subst (λ c. cond c (n ∷ filter of_kept more) (filter of_kept more) ≡ n ∷ more) (sym s) (ap (λ ns. n ∷ ns) e)
    stays_in_front s false e = e

    goes_in_front : stays n.arc ≡ false → (r : Bool) → filter of_kept more ≡ [] → filter of_kept (cond r (n ∷ more) more) ≡ []
    goes_in_front s true e = subst (λ c. cond c (n ∷ filter of_kept more) (filter of_kept more) ≡ []) (sym s) e
    goes_in_front s false e = e

  all_stay : (k : ℕ) → stays k ≡ true → (a : Vertex) (vs : List Vertex) → filter of_kept (filter runs (neighbours_from k a vs)) ≡ filter runs (neighbours_from k a vs)
  all_stay k s a [] = refl
  all_stay k s a (b ∷ vs) = stays_in_front (neighbours_at k a b) (filter runs (neighbours_from k b vs)) s (runs (neighbours_at k a b)) (all_stay k s b vs)

  none_stays : (k : ℕ) → stays k ≡ false → (a : Vertex) (vs : List Vertex) → filter of_kept (filter runs (neighbours_from k a vs)) ≡ []
  none_stays k s a [] = refl
  none_stays k s a (b ∷ vs) = goes_in_front (neighbours_at k a b) (filter runs (neighbours_from k b vs)) s (runs (neighbours_at k a b)) (none_stays k s b vs)

  -- of one arc all, or none
  of_arc : (k : ℕ) (vs : List Vertex) (b : Bool) → stays k ≡ b → filter of_kept (filter runs (neighbours k vs)) ≡ cond b (filter runs (neighbours k vs)) []
  of_arc k [] true s = refl
  of_arc k [] false s = refl
  of_arc k (a ∷ vs) true s = all_stay k s a vs
  of_arc k (a ∷ vs) false s = none_stays k s a vs

  arc_points : (k : ℕ) (vs : List Vertex) → map segment_of (filter runs (neighbours k vs)) ≡ filter has_length (line_segments (map (λ v. v.point) vs))
  arc_points k vs =
      sym (filter_map has_length segment_of (neighbours k vs))
      ∙ ap (λ ns. filter has_length (map segment_of ns)) (sym (append-nil (neighbours k vs)))
      ∙ ap (filter has_length) (segments_are k (vs ∷ []) ∙ append-nil (line_segments (map (λ v. v.point) vs)))

  with_later : (k : ℕ) (vs : List Vertex) (later : List (List Point)) (b : Bool) → stays k ≡ b → map segment_of (filter of_kept (filter runs (neighbours k vs))) ++ filter has_length (all_segments later)
      ≡ filter has_length (all_segments (cond b (map (λ v. v.point) vs ∷ later) later))
  with_later k vs later true s = ap (λ ns. map segment_of ns ++ filter has_length (all_segments later)) (of_arc k vs true s)
      ∙ ap (λ ss. ss ++ filter has_length (all_segments later)) (arc_points k vs) ∙ sym (filter-append has_length (line_segments (map (λ v. v.point) vs)) (all_segments later))
  with_later k vs later false s = ap (λ ns. map segment_of ns ++ filter has_length (all_segments later)) (of_arc k vs false s)

  -- they are those of the kept arcs' positions
  segments_kept : (k : ℕ) (arcs : List (List Vertex)) → map segment_of (filter of_kept (filter runs (all_neighbours k arcs))) ≡ filter has_length (all_segments (keep_from stays k (points_of arcs)))
  segments_kept k [] = refl
  segments_kept k (vs ∷ arcs) =
      ap (λ ns. map segment_of (filter of_kept ns)) (filter-append runs (neighbours k vs) (all_neighbours (suc k) arcs))
      ∙ ap (map segment_of) (filter-append of_kept (filter runs (neighbours k vs)) (filter runs (all_neighbours (suc k) arcs)))
      ∙ map-append segment_of (filter of_kept (filter runs (neighbours k vs))) (filter of_kept (filter runs (all_neighbours (suc k) arcs)))
      ∙ ap (λ ss. map segment_of (filter of_kept (filter runs (neighbours k vs))) ++ ss) (segments_kept (suc k) arcs)
      ∙ with_later k vs (keep_from stays (suc k) (points_of arcs)) (stays k) refl

-- ---- where segments come from

-- where the arcs that are left are some of the reduced ones
some_origins : NoCrossingsLaw → (rings : List (List ℤ)) (t : ℕ) (y left : Contents) (stays : ℕ → Bool) →
    arc_positions left ≡ keep_from stays 0 (reduced_arcs (guarded_by true rings) t (arc_positions y)) → HasOrigins y left
unfolding reduced_arcs
some_origins law rings t y left stays some = record {
  vertices = remaining_arcs (guarded_by true rings) t (arc_positions y);
  thinned = remaining_thinned (guarded_by true rings) t (arc_positions y);
  stays = stays;
  arcs = some;
  segments_are = ap segments some ∙ segments_by_points (keep_from stays 0 (points_of (remaining_arcs (guarded_by true rings) t (arc_positions y))))
      ∙ sym (segments_kept stays 0 (remaining_arcs (guarded_by true rings) t (arc_positions y)));
  met = law rings t (arc_positions y);
}

pub origins : NoCrossingsLaw → LeftArcsAreReduced → (guards : Guards) (t limit : ℕ) (y : Contents) → guards.no_crossings ≡ true → HasOrigins y (left_of guards t limit y).contents
origins law some guards t limit y e =
    let passes : ℕ → Bool = is_used (spared_whole (protection_of guards y) (left_indexes guards t y) limit y).objects in
    some_origins law (rings_to_stay guards y) t y (left_of guards t limit y).contents passes
    (some guards t limit y ∙ ap (λ b. keep_from passes 0 (reduced_arcs (guarded_by b (rings_to_stay guards y)) t (arc_positions y))) e)

-- ---- a row

abbrev at : ℕ → ℕ → Point
at x y = record { x = pos x; y = pos y }

abbrev vertex : ℕ → ℕ → ℕ → Vertex
vertex i x y = record { index = i; point = at x y }

-- two lines that cross; (1,1) lies on the first, and goes
abbrev crossed : List (List Point)
crossed = (at 0 0 ∷ (at 1 1 ∷ (at 4 4 ∷ []))) ∷ ((at 0 4 ∷ (at 4 0 ∷ [])) ∷ [])

crossed_left : remaining_arcs (guarded_by true []) 1 crossed ≡ (vertex 0 0 0 ∷ (vertex 2 4 4 ∷ [])) ∷ ((vertex 0 0 4 ∷ (vertex 1 4 0 ∷ [])) ∷ [])
crossed_left = unfold keeps_rings goes_before twice_area is_free in_triangle same_ends is_on same cross in refl

-- the first segment that is left
abbrev rising : Neighbours
rising = neighbours_at 0 (vertex 0 0 0) (vertex 2 4 4)

-- the other
abbrev falling : Neighbours
falling = neighbours_at 1 (vertex 0 0 4) (vertex 1 4 0)

crossed_still : meets_badly (segment_of rising) (segment_of falling) ≡ true
crossed_still = unfold meets_badly crosses separates touches same_ends is_on same cross in refl

-- of the two between its ends the one that began the first line didn't cross the other line
crossed_not : meets_badly (segment_of (neighbours_at 0 (vertex 0 0 0) (vertex 1 1 1))) (segment_of falling) ≡ false
crossed_not = unfold meets_badly crosses separates touches same_ends is_on same cross in refl

-- and the one that ended it did
crossed_before : MetBefore (arc_segments (map (numbered 0) crossed)) rising falling
unfolding meets_badly crosses separates touches same_ends is_on same cross
crossed_before = record {
  one = neighbours_at 0 (vertex 1 1 1) (vertex 2 4 4);
  two = falling;
  one_among = inr (inl refl);
  two_among = inr (inr (inl refl));
  one_within = record { arc = refl; start = omega arith; end = omega arith };
  two_within = record { arc = refl; start = omega arith; end = omega arith };
  apart = λ e. let n : 0 ≡ 1 = ap (λ (x : Neighbours). x.arc) e in omega (arith, n);
  bad = refl;
}
