-- A corner that no place blocks is free.
use Rattle.std.proofs.Common.{◌≡◌, ℕ, ◌<◌, ◌==◌, Bool, true, false, not, ◌&&◌, List, length, slice_index_or, sym, subst, ◌⊎◌, inl, inr, arith}
use Rattle.std.proofs.lemmas.Bool.{and_parts, and_from, or_left, or_right, or_cases, not_from_false, true_from_ne_false, both_ways, lt-ltb}
use Rattle.std.proofs.lemmas.Bool.Decides.{nat_tests}
use Rattle.geometry.specs.Points.{Point}
use Rattle.geometry.specs.Rings.{same}
use Rattle.elimination_meaning.specs.Elimination.{Vertex}
use Rattle.guarded_meaning.specs.Holders.{Holder, Inside, Across, IsLeft, Holds}
use Rattle.guarded_meaning.specs.Arcs.{ArcCorner}
use Rattle.guarded_meaning.specs.Guards.{is_free}
use Rattle.guarded_meaning.specs.Segments.{segment, same_ends}
use Rattle.guarded_meaning.specs.Triangles.{is_clear}
use Rattle.guarded_meaning.proofs.Holders.{free_or_held}
use Rattle.guarded_reduction.specs.declared.index.corner.Corner.{Corner}
use Rattle.guarded_reduction.specs.Indexes.{NoneMeets, point_at}
use Rattle.guarded_reduction.specs.Blocking.{is_blocked_by, is_joined_at, joins_ends, leads_on}
use Rattle.guarded_reduction.specs.Laws.{IsShown, IsLinked, Shows, IsOwn, asked, FreeLaw}
use Rattle.guarded_reduction.specs.Tests.{is_held_by}

other : (a b : ℕ) → (a ≡ b → ⊥) → not (a == b) ≡ true
other a b h = grind (arith, nat_tests)

-- ---- the tests

inside : (q : Corner) (z : ℕ) (p : Point) → (z ≡ q.place → ⊥) → is_clear q.before q.at q.after p ≡ false → is_held_by q z p ≡ true
unfolding is_held_by
inside q z p n h = and_from _ _ (other z q.place n) (not_from_false _ h)

pub blocked_inside : (ps : List Point) (befores afters : List ℕ) (q : Corner) (z : ℕ) (p : Point) → is_held_by q z p ≡ true → is_blocked_by ps befores afters q z p ≡ true
unfolding is_blocked_by
blocked_inside ps befores afters q z p h = or_left _ _ h

pub blocked_across : (ps : List Point) (befores afters : List ℕ) (q : Corner) (z : ℕ) (p : Point) → joins_ends ps befores afters q z p ≡ true → is_blocked_by ps befores afters q z p ≡ true
unfolding is_blocked_by
blocked_across ps befores afters q z p h = or_right _ _ h

pub leads : (ps : List Point) (c : Point) (w y : ℕ) (p : Point) → y < length ps → (y ≡ w → ⊥) → point_at ps y ≡ p → same c p ≡ true → leads_on ps c w y ≡ true
unfolding leads_on
leads ps c w y p l n e s = and_from _ _ (lt-ltb y (length ps) l) (and_from _ _ (other y w n) (subst (λ (r : Point). same c r ≡ true) (sym e) s))

pub joined_before : (ps : List Point) (befores afters : List ℕ) (a c : Point) (w z y : ℕ) (p : Point) → same a p ≡ true → (z ≡ w → ⊥) → slice_index_or befores z w ≡ y → leads_on ps c w y ≡ true → is_joined_at ps befores afters a c w z p ≡ true
unfolding is_joined_at
joined_before ps befores afters a c w z y p s n e l = and_from _ _ s (and_from _ _ (other z w n) (or_left _ _ (subst (λ (k : ℕ). leads_on ps c w k ≡ true) (sym e) l)))

pub joined_after : (ps : List Point) (befores afters : List ℕ) (a c : Point) (w z y : ℕ) (p : Point) → same a p ≡ true → (z ≡ w → ⊥) → slice_index_or afters z w ≡ y → leads_on ps c w y ≡ true → is_joined_at ps befores afters a c w z p ≡ true
unfolding is_joined_at
joined_after ps befores afters a c w z y p s n e l = and_from _ _ s (and_from _ _ (other z w n) (or_right _ _ (subst (λ (k : ℕ). leads_on ps c w k ≡ true) (sym e) l)))

pub ends : (ps : List Point) (befores afters : List ℕ) (q : Corner) (z : ℕ) (p : Point) → same q.before q.after ≡ false → is_joined_at ps befores afters q.before q.after q.place z p ≡ true → joins_ends ps befores afters q z p ≡ true
unfolding joins_ends
ends ps befores afters q z p d h = and_from _ _ (not_from_false _ d) h

end_cases : (a c p q : Point) → same_ends (segment a c) (segment p q) ≡ true → ((same a p ≡ true) × (same c q ≡ true)) ⊎ ((same a q ≡ true) × (same c p ≡ true))
unfolding same_ends
end_cases a c p q h = by (or_cases _ _ h)
  where
    by : ((same a p && same c q) ≡ true) ⊎ ((same a q && same c p) ≡ true) → ((same a p ≡ true) × (same c q ≡ true)) ⊎ ((same a q ≡ true) × (same c p ≡ true))
    by (inl k) = inl (and_parts _ _ k)
    by (inr k) = inr (and_parts _ _ k)

-- ---- no place meets the test, so one that is shown does not

unmet : (ps : List Point) (bs : List Bool) (befores afters : List ℕ) (q : Corner) (z : ℕ) (p : Point) → NoneMeets ps bs (is_blocked_by ps befores afters q) → IsShown ps bs z p → is_blocked_by ps befores afters q z p ≡ true → ⊥
unmet ps bs befores afters q z p n s h = both_ways _ (n.fails z s.within s.left) (subst (λ (r : Point). is_blocked_by ps befores afters q z r ≡ true) (sym s.point) h)

no_holder : (number : ℕ → ℕ → ℕ) (ps : List Point) (bs : List Bool) (befores afters : List ℕ) (arcs : List (List Vertex)) (c : ArcCorner) (w : ℕ) → Shows number ps bs befores afters arcs → IsOwn number arcs c w →
    NoneMeets ps bs (is_blocked_by ps befores afters (asked c w)) → (h : Holder) → IsLeft arcs h → Holds c h → ⊥
no_holder number ps bs befores afters arcs c w s o n (Inside x) l h =
    unmet ps bs befores afters (asked c w) (number x.arc x.vertex.index) x.vertex.point n (s.place x l)
    (blocked_inside ps befores afters (asked c w) (number x.arc x.vertex.index) x.vertex.point (inside (asked c w) (number x.arc x.vertex.index) x.vertex.point (λ e. both_ways _ h.0 (o.place x l e)) h.1))
no_holder number ps bs befores afters arcs c w s o n (Across j) l h = by (end_cases c.before c.after j.from.point j.to.point h.1)
  where
    k : IsLinked ps bs befores afters (number j.arc j.from.index) (number j.arc j.to.index) j.from.point j.to.point
    k = s.pair j l

    not_from : number j.arc j.from.index ≡ w → ⊥
    not_from e = both_ways _ h.0 (o.from j l e)

    not_to : number j.arc j.to.index ≡ w → ⊥
    not_to e = both_ways _ h.0 (o.to j l e)

    by : ((same c.before j.from.point ≡ true) × (same c.after j.to.point ≡ true)) ⊎ ((same c.before j.to.point ≡ true) × (same c.after j.from.point ≡ true)) → ⊥
    by (inl e) = unmet ps bs befores afters (asked c w) (number j.arc j.from.index) j.from.point n k.from
        (blocked_across ps befores afters (asked c w) (number j.arc j.from.index) j.from.point (ends ps befores afters (asked c w) (number j.arc j.from.index) j.from.point h.2
        (joined_after ps befores afters c.before c.after w (number j.arc j.from.index) (number j.arc j.to.index) j.from.point e.0 not_from (k.after w)
        (leads ps c.after w (number j.arc j.to.index) j.to.point k.to.within not_to k.to.point e.1))))
    by (inr e) = unmet ps bs befores afters (asked c w) (number j.arc j.to.index) j.to.point n k.to
        (blocked_across ps befores afters (asked c w) (number j.arc j.to.index) j.to.point (ends ps befores afters (asked c w) (number j.arc j.to.index) j.to.point h.2
        (joined_before ps befores afters c.before c.after w (number j.arc j.to.index) (number j.arc j.from.index) j.to.point e.0 not_to (k.before w)
        (leads ps c.after w (number j.arc j.from.index) j.from.point k.from.within not_from k.from.point e.1))))

pub free_law : FreeLaw
free_law number ps bs befores afters arcs c w s o n = true_from_ne_false (is_free arcs c) (λ f. held (free_or_held arcs c f))
  where
    held : (h : Holder) × IsLeft arcs h × Holds c h → ⊥
    held (h, l, k) = no_holder number ps bs befores afters arcs c w s o n h l k
