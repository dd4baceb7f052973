-- What holds corners, and goes on holding them.
use Rattle.std.proofs.Common.{◌≡◌, ℕ, suc, Bool, false, not, ◌||◌, List, [], ◌∷◌, ◌++◌, map, ◌⊎◌, inl, inr, refl, ap, sym, ◌∙◌, subst, arith}
use Rattle.guarded_meaning.proofs.Names.{and_cases, and_left, and_right, or_parts, or_from, both_ways, not-false, not_from_true, not_from_false, filter-append, filter, in_filter, list_all, each_of, in_left, in_right, in_append, In, same, Vertex, FreeOrHeld, HeldIsNotFree, HolderStays, NeverAgain, ArcCorner, all_corners, Place, place_at, places, is_place_of, Neighbours, neighbours_at, segment_of, all_neighbours, is_pair_of, left_by, points_of, has_empty_triangle, has_open_base, is_free, uses, is_long, keeps_rings, segment, same_ends, is_clear, passing}
use Rattle.guarded_meaning.specs.Holders.{Holder, Inside, Across, IsLeft, Holds}
use Rattle.guarded_meaning.proofs.Lists.{filter_map}
use Rattle.guarded_meaning.proofs.Neighbours.{AreParted, all_parted}
use Rattle.guarded_meaning.proofs.NoCrossings.{own_first, own_second}
use Rattle.guarded_meaning.proofs.Shorter.{fewer_left, still_short}
use Rattle.guarded_meaning.proofs.Weights.{left_passing}

-- ---- one that fails

which_fails : {X : Type 0} (p : X → Bool) (xs : List X) → list_all p xs ≡ false → (x : X) × In x xs × (p x ≡ false)
which_fails p [] h = absurd (grind arith)
which_fails {X = X} p (x ∷ xs) h = grind (arith, which_fails p xs)

one_fails : {X : Type 0} (p : X → Bool) (x : X) (xs : List X) → In x xs → p x ≡ false → list_all p xs ≡ false
one_fails p x [] k h = elim k [ ]
one_fails p x (y ∷ ys) k h = grind (arith, one_fails p x ys)

-- ---- holders

module _ (arcs : List (List Vertex)) (c : ArcCorner) where
  abbrev clear_at : Place → Bool
  clear_at x = is_place_of c x || is_clear c.before c.corner.point c.after x.vertex.point

  abbrev open_at : Neighbours → Bool
  open_at n = is_pair_of c n || not (same_ends (segment c.before c.after) (segment_of n))

  free_or_held_by : (has_empty_triangle arcs c ≡ false) ⊎ (has_open_base arcs c ≡ false) → (h : Holder) × IsLeft arcs h × Holds c h
  free_or_held_by (inl e) =
      let f = which_fails clear_at (places 0 arcs) e in
      let m = or_parts (is_place_of c f.0) (is_clear c.before c.corner.point c.after f.0.vertex.point) f.2 in
      (Inside f.0, f.1, (m.0, m.1))
  free_or_held_by (inr e) =
      let s = or_parts (same c.before c.after) (list_all open_at (all_neighbours 0 arcs)) e in
      let f = which_fails open_at (all_neighbours 0 arcs) s.1 in
      let m = or_parts (is_pair_of c f.0) (not (same_ends (segment c.before c.after) (segment_of f.0))) f.2 in
      (Across f.0, f.1, (m.0, not-false (same_ends (segment c.before c.after) (segment_of f.0)) m.1, s.0))

pub free_or_held : FreeOrHeld
unfolding is_free
free_or_held arcs c h = free_or_held_by arcs c (and_cases (has_empty_triangle arcs c) (has_open_base arcs c) h)

pub held_is_not_free : HeldIsNotFree
unfolding is_free
held_is_not_free arcs c (Inside x) l h = and_left (has_empty_triangle arcs c) (has_open_base arcs c)
    (one_fails (clear_at arcs c) x (places 0 arcs) l (or_from (is_place_of c x) (is_clear c.before c.corner.point c.after x.vertex.point) h.0 h.1))
held_is_not_free arcs c (Across n) l h = and_right (has_empty_triangle arcs c) (has_open_base arcs c)
    (or_from (same c.before c.after) (list_all (open_at arcs c) (all_neighbours 0 arcs)) h.2
    (one_fails (open_at arcs c) n (all_neighbours 0 arcs) l (or_from (is_pair_of c n) (not (same_ends (segment c.before c.after) (segment_of n))) h.0
    (not_from_true (same_ends (segment c.before c.after) (segment_of n)) h.1))))

-- ---- what is left

pub places_passing : (p : Place → Bool) (k : ℕ) (arcs : List (List Vertex)) → places k (passing p k arcs) ≡ filter p (places k arcs)
places_passing p k [] = refl
places_passing p k (vs ∷ arcs) = ap (λ xs. xs ++ places (suc k) (passing p (suc k) arcs)) (sym (filter_map p (place_at k) vs))
    ∙ ap (λ xs. filter p (map (place_at k) vs) ++ xs) (places_passing p (suc k) arcs) ∙ sym (filter-append p (map (place_at k) vs) (places (suc k) arcs))

place_stays : (arcs : List (List Vertex)) (c : ArcCorner) (x : Place) → In x (places 0 arcs) → is_place_of c x ≡ false → In x (places 0 (left_by arcs c))
place_stays arcs c x m h = subst (In x) (sym (ap (places 0) (left_passing arcs c) ∙ places_passing (λ y. not (is_place_of c y)) 0 arcs))
    (in_filter (λ y. not (is_place_of c y)) x (places 0 arcs) m (not_from_false (is_place_of c x) h))

pair_stays : (arcs : List (List Vertex)) (c : ArcCorner) (n : Neighbours) (r : AreParted arcs c) → is_pair_of c n ≡ false →
    In n r.front ⊎ In n (neighbours_at c.arc r.a r.p ∷ (neighbours_at c.arc r.p r.d ∷ r.back)) → In n (r.front ++ (neighbours_at c.arc r.a r.d ∷ r.back))
pair_stays arcs c n r h (inl m) = in_left n r.front (neighbours_at c.arc r.a r.d ∷ r.back) m
pair_stays arcs c n r h (inr (inl e)) = absurd (both_ways (is_pair_of c n) h (ap (is_pair_of c) e ∙ own_first c r.a r.p r.d r.at))
pair_stays arcs c n r h (inr (inr (inl e))) = absurd (both_ways (is_pair_of c n) h (ap (is_pair_of c) e ∙ own_second c r.a r.p r.d r.at))
pair_stays arcs c n r h (inr (inr (inr m))) = in_right n r.front (neighbours_at c.arc r.a r.d ∷ r.back) (inr m)

pub holder_stays : HolderStays
holder_stays arcs c (Inside x) own k l h = place_stays arcs c x l h
holder_stays arcs c (Across n) own k l h =
    let r = each_of (AreParted arcs) (all_corners 0 arcs) c (all_parted arcs own) k in
    subst (In n) (sym r.is) (pair_stays arcs c n r h (in_append n r.front (neighbours_at c.arc r.a r.p ∷ (neighbours_at c.arc r.p r.d ∷ r.back)) (subst (In n) r.was l)))

pub never_again : NeverAgain
unfolding keeps_rings
never_again rings arcs c d h =
    let f = which_fails (λ refs. not (uses d.arc refs) || is_long (points_of (left_by arcs d)) refs) rings h in
    let m = or_parts (not (uses d.arc f.0)) (is_long (points_of (left_by arcs d)) f.0) f.2 in
    one_fails (λ refs. not (uses d.arc refs) || is_long (points_of (left_by (left_by arcs c) d)) refs) f.0 rings f.1
    (or_from (not (uses d.arc f.0)) (is_long (points_of (left_by (left_by arcs c) d)) f.0) m.0
    (still_short f.0 (left_by (left_by arcs c) d) (left_by arcs d) (fewer_left d.arc d.corner.index c.arc c.corner.index arcs) m.1))
