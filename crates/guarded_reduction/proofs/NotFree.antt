-- A corner that a place blocks is not free.
use Rattle.std.proofs.Common.{◌≡◌, ℕ, ◌==◌, true, false, not, ◌&&◌, ◌||◌, List, slice_index_or, sym, ap, subst, ◌∙◌, ◌⊎◌, inl, inr, arith}
use Rattle.std.proofs.lemmas.Bool.{and_parts, and_from, or_left, or_right, or_cases, not-true, false_from_ne_true}
use Rattle.std.proofs.lemmas.Bool.Decides.{nat_tests}
use Rattle.guarded_reduction.proofs.Joining.{blocked_cases}
use Rattle.geometry.specs.Points.{Point}
use Rattle.geometry.specs.Rings.{same}
use Rattle.geometry.proofs.Points.{same_is}
use Rattle.elimination_meaning.specs.Elimination.{Vertex}
use Rattle.guarded_meaning.specs.Holders.{Inside, Across}
use Rattle.guarded_meaning.specs.Arcs.{ArcCorner, Place, Neighbours, is_place_of, is_pair_of}
use Rattle.guarded_meaning.specs.Guards.{is_free}
use Rattle.guarded_meaning.specs.Segments.{segment, same_ends}
use Rattle.guarded_meaning.specs.Triangles.{is_clear}
use Rattle.guarded_meaning.proofs.Holders.{held_is_not_free}
use Rattle.guarded_reduction.specs.declared.index.corner.Corner.{Corner}
use Rattle.guarded_reduction.specs.Indexes.{point_at}
use Rattle.guarded_reduction.specs.Blocking.{is_joined_at, joins_ends, leads_on}
use Rattle.guarded_reduction.specs.Laws.{IsPlace, Leads, asked, BlockedLaw}
use Rattle.guarded_reduction.specs.Tests.{is_held_by}

equal : (a b : ℕ) → (a == b) ≡ true → a ≡ b
equal a b h = grind (arith, nat_tests)

distinct : (a b : ℕ) → not (a == b) ≡ true → a ≡ b → ⊥
distinct a b h e = grind (arith, nat_tests)

pub held : (q : Corner) (z : ℕ) (p : Point) → is_held_by q z p ≡ true → (z ≡ q.place → ⊥) × (is_clear q.before q.at q.after p ≡ false)
unfolding is_held_by
held q z p h = (distinct z q.place (and_parts _ _ h).0, not-true _ (and_parts _ _ h).1)

pub joined : (ps : List Point) (befores afters : List ℕ) (q : Corner) (z : ℕ) (p : Point) → joins_ends ps befores afters q z p ≡ true → (same q.before q.after ≡ false) × (is_joined_at ps befores afters q.before q.after q.place z p ≡ true)
unfolding joins_ends
joined ps befores afters q z p h = (not-true _ (and_parts _ _ h).0, (and_parts _ _ h).1)

pub joined_parts : (ps : List Point) (befores afters : List ℕ) (a c : Point) (w z : ℕ) (p : Point) → is_joined_at ps befores afters a c w z p ≡ true →
    (same a p ≡ true) × (z ≡ w → ⊥) × ((leads_on ps c w (slice_index_or befores z w) ≡ true) ⊎ (leads_on ps c w (slice_index_or afters z w) ≡ true))
unfolding is_joined_at
joined_parts ps befores afters a c w z p h =
    let r : (not (z == w) && (leads_on ps c w (slice_index_or befores z w) || leads_on ps c w (slice_index_or afters z w))) ≡ true = (and_parts _ _ h).1 in
    ((and_parts _ _ h).0, distinct z w (and_parts _ _ r).0, or_cases _ _ (and_parts _ _ r).1)

pub leads_parts : (ps : List Point) (c : Point) (w y : ℕ) → leads_on ps c w y ≡ true → (y ≡ w → ⊥) × (same c (point_at ps y) ≡ true)
unfolding leads_on
leads_parts ps c w y h =
    let r : (not (y == w) && same c (point_at ps y)) ≡ true = (and_parts _ _ h).1 in
    (distinct y w (and_parts _ _ r).0, (and_parts _ _ r).1)

-- the corner's own place and segments have its number
own_place : (number : ℕ → ℕ → ℕ) (c : ArcCorner) (x : Place) → is_place_of c x ≡ true → number x.arc x.vertex.index ≡ number c.arc c.corner.index
own_place number c x h = ap (λ (k : ℕ). number k x.vertex.index) (equal x.arc c.arc (and_parts _ _ h).0) ∙ ap (λ (k : ℕ). number c.arc k) (equal x.vertex.index c.corner.index (and_parts _ _ h).1)

own_pair : (number : ℕ → ℕ → ℕ) (c : ArcCorner) (j : Neighbours) → is_pair_of c j ≡ true → (number j.arc j.from.index ≡ number c.arc c.corner.index) ⊎ (number j.arc j.to.index ≡ number c.arc c.corner.index)
own_pair number c j h = by (or_cases _ _ (and_parts _ _ h).1)
  where
    arc : (i : ℕ) → number j.arc i ≡ number c.arc i
    arc i = ap (λ (k : ℕ). number k i) (equal j.arc c.arc (and_parts _ _ h).0)

    by : ((j.from.index == c.corner.index) ≡ true) ⊎ ((j.to.index == c.corner.index) ≡ true) → (number j.arc j.from.index ≡ number c.arc c.corner.index) ⊎ (number j.arc j.to.index ≡ number c.arc c.corner.index)
    by (inl e) = inl (arc j.from.index ∙ ap (λ (k : ℕ). number c.arc k) (equal j.from.index c.corner.index e))
    by (inr e) = inr (arc j.to.index ∙ ap (λ (k : ℕ). number c.arc k) (equal j.to.index c.corner.index e))

same_ends_from : (a c p q : Point) → ((same a p ≡ true) × (same c q ≡ true)) ⊎ ((same a q ≡ true) × (same c p ≡ true)) → same_ends (segment a c) (segment p q) ≡ true
unfolding same_ends
same_ends_from a c p q (inl h) = or_left _ _ (and_from _ _ h.0 h.1)
same_ends_from a c p q (inr h) = or_right _ _ (and_from _ _ h.0 h.1)

-- a segment whose ends are not the corner's place holds it
across : (number : ℕ → ℕ → ℕ) (ps : List Point) (arcs : List (List Vertex)) (c : ArcCorner) (y z : ℕ) → (l : Leads number ps arcs y z) →
    (y ≡ number c.arc c.corner.index → ⊥) → (z ≡ number c.arc c.corner.index → ⊥) → same c.before c.after ≡ false →
    ((same c.before (point_at ps y) ≡ true) × (same c.after (point_at ps z) ≡ true)) ⊎ ((same c.before (point_at ps z) ≡ true) × (same c.after (point_at ps y) ≡ true)) → is_free arcs c ≡ false
across number ps arcs c y z l ny nz d e = held_is_not_free arcs c (Across l.pair) l.there (false_from_ne_true _ not_own, same_ends_from c.before c.after l.pair.from.point l.pair.to.point (at e), d)
  where
    not_by : (number l.pair.arc l.pair.from.index ≡ number c.arc c.corner.index) ⊎ (number l.pair.arc l.pair.to.index ≡ number c.arc c.corner.index) → ⊥
    not_by (inl q) = ny (sym l.from ∙ q)
    not_by (inr q) = nz (sym l.to ∙ q)

    not_own : is_pair_of c l.pair ≡ true → ⊥
    not_own h = not_by (own_pair number c l.pair h)

    at : ((same c.before (point_at ps y) ≡ true) × (same c.after (point_at ps z) ≡ true)) ⊎ ((same c.before (point_at ps z) ≡ true) × (same c.after (point_at ps y) ≡ true)) →
        ((same c.before l.pair.from.point ≡ true) × (same c.after l.pair.to.point ≡ true)) ⊎ ((same c.before l.pair.to.point ≡ true) × (same c.after l.pair.from.point ≡ true))
    at (inl q) = inl (subst (λ (r : Point). same c.before r ≡ true) l.from_point q.0, subst (λ (r : Point). same c.after r ≡ true) l.to_point q.1)
    at (inr q) = inr (subst (λ (r : Point). same c.before r ≡ true) l.to_point q.0, subst (λ (r : Point). same c.after r ≡ true) l.from_point q.1)

-- and_from positions are that of one place, so they are one
one_place : (a c p : Point) → same a p ≡ true → same c p ≡ true → same a c ≡ false → ⊥
one_place a c p h k d = let e : a ≡ c = same_is a p h ∙ sym (same_is c p k) in let t : same c c ≡ true = same_itself c p k in let u : same a c ≡ true = subst (λ (r : Point). same r c ≡ true) (sym e) t in cc
  where
    same_itself : (c p : Point) → same c p ≡ true → same c c ≡ true
    same_itself c p k = subst (λ (r : Point). same c r ≡ true) (sym (same_is c p k)) k

pub blocked_law : BlockedLaw
blocked_law number ps bs befores afters arcs c z s m = by (blocked_cases ps befores afters (asked c (number c.arc c.corner.index)) z (point_at ps z) m.meets)
  where
    in_triangle : IsPlace number ps arcs z → (z ≡ number c.arc c.corner.index → ⊥) × (is_clear c.before c.corner.point c.after (point_at ps z) ≡ false) → is_free arcs c ≡ false
    in_triangle x h = held_is_not_free arcs c (Inside x.place) x.there (false_from_ne_true _ (λ o. h.0 (sym x.number_is ∙ own_place number c x.place o)), subst (λ (r : Point). is_clear c.before c.corner.point c.after r ≡ false) x.point h.1)

    at_before : (same c.before c.after ≡ false) → same c.before (point_at ps z) ≡ true → (z ≡ number c.arc c.corner.index → ⊥) → (y : ℕ) → (y ≡ z) ⊎ Leads number ps arcs y z →
        (y ≡ number c.arc c.corner.index → ⊥) × (same c.after (point_at ps y) ≡ true) → is_free arcs c ≡ false
    at_before d a n y (inl e) l = absurd (one_place c.before c.after (point_at ps z) a (subst (λ (k : ℕ). same c.after (point_at ps k) ≡ true) e l.1) d)
    at_before d a n y (inr k) l = across number ps arcs c y z k l.0 n d (inr (a, l.1))

    at_after : (same c.before c.after ≡ false) → same c.before (point_at ps z) ≡ true → (z ≡ number c.arc c.corner.index → ⊥) → (y : ℕ) → (y ≡ z) ⊎ Leads number ps arcs z y →
        (y ≡ number c.arc c.corner.index → ⊥) × (same c.after (point_at ps y) ≡ true) → is_free arcs c ≡ false
    at_after d a n y (inl e) l = absurd (one_place c.before c.after (point_at ps z) a (subst (λ (k : ℕ). same c.after (point_at ps k) ≡ true) e l.1) d)
    at_after d a n y (inr k) l = across number ps arcs c z y k n l.0 d (inl (a, l.1))

    either : (same c.before c.after ≡ false) → same c.before (point_at ps z) ≡ true → (z ≡ number c.arc c.corner.index → ⊥) →
        (leads_on ps c.after (number c.arc c.corner.index) (slice_index_or befores z (number c.arc c.corner.index)) ≡ true) ⊎ (leads_on ps c.after (number c.arc c.corner.index) (slice_index_or afters z (number c.arc c.corner.index)) ≡ true) → is_free arcs c ≡ false
    either d a n (inl l) = at_before d a n (slice_index_or befores z (number c.arc c.corner.index)) (s.before z (number c.arc c.corner.index) m.within m.left) (leads_parts ps c.after (number c.arc c.corner.index) _ l)
    either d a n (inr l) = at_after d a n (slice_index_or afters z (number c.arc c.corner.index)) (s.after z (number c.arc c.corner.index) m.within m.left) (leads_parts ps c.after (number c.arc c.corner.index) _ l)

    joins : (same c.before c.after ≡ false) × (is_joined_at ps befores afters c.before c.after (number c.arc c.corner.index) z (point_at ps z) ≡ true) → is_free arcs c ≡ false
    joins h = let p : (same c.before (point_at ps z) ≡ true) × (z ≡ number c.arc c.corner.index → ⊥) × ((leads_on ps c.after (number c.arc c.corner.index) (slice_index_or befores z (number c.arc c.corner.index)) ≡ true) ⊎ (leads_on ps c.after (number c.arc c.corner.index) (slice_index_or afters z (number c.arc c.corner.index)) ≡ true)) = joined_parts ps befores afters c.before c.after (number c.arc c.corner.index) z (point_at ps z) h.1 in either h.0 p.0 p.1 p.2

    by : (is_held_by (asked c (number c.arc c.corner.index)) z (point_at ps z) ≡ true) ⊎ (joins_ends ps befores afters (asked c (number c.arc c.corner.index)) z (point_at ps z) ≡ true) → is_free arcs c ≡ false
    by (inl h) = in_triangle (s.place z m.within m.left) (held (asked c (number c.arc c.corner.index)) z (point_at ps z) h)
    by (inr h) = joins (joined ps befores afters (asked c (number c.arc c.corner.index)) z (point_at ps z) h)
