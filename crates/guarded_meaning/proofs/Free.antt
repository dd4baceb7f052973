-- What a corner that is free says of the neighbours that stay.
use Rattle.std.proofs.Common.{◌≡◌, ◌==◌, Bool, true, false, not, ◌&&◌, ◌||◌, List, ◌⊎◌, inl, inr, arith}
use Rattle.guarded_meaning.proofs.Names.{and_parts, or_cases, not-true, list_all, all_passed, each_of, In, same, Vertex, ArcCorner, place_at, places, is_place_of, Neighbours, segment_of, all_neighbours, is_pair_of, has_empty_triangle, has_open_base, is_free, segment, has_length, same_ends, meets_badly, is_clear}
use Rattle.guarded_meaning.proofs.Neighbours.{AreAmong, all_among}
use Rattle.guarded_meaning.proofs.Step.{length_step}

-- neighbours keep out of the corner's triangle, and are not at the ends of its base
pub record Avoids (c : ArcCorner) (n : Neighbours) : Type 0 where
  pub start : is_clear c.before c.corner.point c.after n.from.point ≡ true
  pub end : is_clear c.before c.corner.point c.after n.to.point ≡ true
  pub base : (same c.before c.after ≡ true) ⊎ (same_ends (segment c.before c.after) (segment_of n) ≡ false)

not_either : (b f t : Bool) → (b && (f || t)) ≡ false → ((b && f) ≡ false) × ((b && t) ≡ false)
not_either b f t h = grind arith

or_other : (a b : Bool) → a ≡ false → (a || b) ≡ true → b ≡ true
or_other a b h k = grind arith

module _ (arcs : List (List Vertex)) (c : ArcCorner) (free : is_free arcs c ≡ true) where
  halves : (has_empty_triangle arcs c ≡ true) × (has_open_base arcs c ≡ true)
  unfolding is_free
  halves = and_parts (has_empty_triangle arcs c) (has_open_base arcs c) free

  clear_at : (k : Vertex) (n : Neighbours) → In (place_at n.arc k) (places 0 arcs) → is_place_of c (place_at n.arc k) ≡ false → is_clear c.before c.corner.point c.after k.point ≡ true
  clear_at k n m h = or_other (is_place_of c (place_at n.arc k)) (is_clear c.before c.corner.point c.after k.point) h
      (each_of (λ x. (is_place_of c x || is_clear c.before c.corner.point c.after x.vertex.point) ≡ true) (places 0 arcs) (place_at n.arc k)
      (all_passed (λ x. is_place_of c x || is_clear c.before c.corner.point c.after x.vertex.point) (places 0 arcs) halves.0) m)

  base_at : (n : Neighbours) → In n (all_neighbours 0 arcs) → is_pair_of c n ≡ false → (same c.before c.after ≡ true) ⊎ (same_ends (segment c.before c.after) (segment_of n) ≡ false)
  base_at n m h = elim (or_cases (same c.before c.after) (list_all (λ i. is_pair_of c i || not (same_ends (segment c.before c.after) (segment_of i))) (all_neighbours 0 arcs)) halves.1) [
    | inl e ↦ inl e
    | inr e ↦ inr (not-true (same_ends (segment c.before c.after) (segment_of n)) (or_other (is_pair_of c n) (not (same_ends (segment c.before c.after) (segment_of n))) h
        (each_of (λ i. (is_pair_of c i || not (same_ends (segment c.before c.after) (segment_of i))) ≡ true) (all_neighbours 0 arcs) n
        (all_passed (λ i. is_pair_of c i || not (same_ends (segment c.before c.after) (segment_of i))) (all_neighbours 0 arcs) e) m)))
  ]

  pub avoids : (n : Neighbours) → In n (all_neighbours 0 arcs) → is_pair_of c n ≡ false → Avoids c n
  avoids n m h =
      let k = not_either (n.arc == c.arc) (n.from.index == c.corner.index) (n.to.index == c.corner.index) h in
      let a = each_of (AreAmong (places 0 arcs)) (all_neighbours 0 arcs) n (all_among 0 arcs) m in
      record { start = clear_at n.from n a.0 k.0; end = clear_at n.to n a.1 k.1; base = base_at n m h }

-- the segment in the corner's place, where there is one, meets such neighbours badly only where one of the two before it did
pub met_before : (c : ArcCorner) (n : Neighbours) → Avoids c n → has_length (segment c.before c.after) ≡ true → meets_badly (segment c.before c.after) (segment_of n) ≡ true →
    ((has_length (segment c.before c.corner.point) ≡ true) × (meets_badly (segment c.before c.corner.point) (segment_of n) ≡ true))
    ⊎ ((has_length (segment c.corner.point c.after) ≡ true) × (meets_badly (segment c.corner.point c.after) (segment_of n) ≡ true))
met_before c n a l h = grind (arith, a.base, length_step c.before c.corner.point c.after (segment_of n) a.start a.end)
