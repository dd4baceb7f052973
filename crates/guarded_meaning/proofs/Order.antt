-- The order of the corners of all arcs is total, so the first of several is that of its separates; within an arc it is the arc's own.
use Rattle.std.proofs.Common.{◌≡◌, ℕ, suc, Bool, true, List, [], ◌∷◌, ◌++◌, map, Option, Some, None, refl, ap, sym, ◌∙◌, if◌then◌else◌, arith}
use Rattle.guarded_meaning.proofs.Names.{nat_tests, AllByRecursion, ordering_then, nat_cmp, is_lt, Equal, chosen_of, map_some, Holds, Corner, is_before, lesser, least, ArcCorner, earlier, first_corner, arc_corner_cmp, goes_before}
use Rattle.std.specs.Cmp.{IsTotalOrder, IsStrictWeakOrder}
use Rattle.std.proofs.lemmas.Cmp.{on_total, then_total, nat_cmp_total, int_cmp_total}
use Rattle.std.proofs.lemmas.List.MinMax.{ranks_by}
use Rattle.geometry.specs.Order.{point_cmp}
use Rattle.guarded_meaning.proofs.Kept.{first_holds}
use Rattle.guarded_meaning.proofs.Removal.{moved, in_next_arc}

pub arc_corner_total : IsTotalOrder arc_corner_cmp
arc_corner_total = then_total (on_total (λ c. c.corner.area) nat_cmp_total) (then_total
    (on_total (λ c. c.corner.point) (then_total (on_total (λ p. p.x) int_cmp_total) (on_total (λ p. p.y) int_cmp_total)))
    (then_total (on_total (λ c. c.arc) nat_cmp_total) (on_total (λ c. c.corner.index) nat_cmp_total)))

pub goes_order : IsStrictWeakOrder goes_before
unfolding goes_before
goes_order = ranks_by arc_corner_total (λ c. c)

goes_chain : (a b c : ArcCorner) → goes_before c b ≡ true → goes_before b a ≡ true → goes_before c a ≡ true
goes_chain a b c p q = grind (arith, goes_order.chain, goes_order.one_way)

assoc_at : (a b c : ArcCorner) (p q r : Bool) → goes_before b a ≡ p → goes_before c b ≡ q → goes_before c a ≡ r →
    (if goes_before c (if p then b else a) then c else (if p then b else a)) ≡ (if goes_before (if q then c else b) a then (if q then c else b) else a)
assoc_at a b c p q r e f g = grind (arith, goes_chain, goes_order.chain)

pub first_append : (cs ds : List ArcCorner) → first_corner (cs ++ ds) ≡ earlier (first_corner cs) (first_corner ds)
first_append [] ds = refl
first_append (c ∷ cs) ds = ap (earlier (Some c)) (first_append cs ds) ∙ sym (grind (arith, assoc_at))

-- ---- within an arc

level : (n : ℕ) → nat_cmp n n ≡ Equal
level n = grind (arith, nat_tests)

same_order : (c d : ArcCorner) → d.arc ≡ c.arc → goes_before d c ≡ is_before d.corner c.corner
unfolding goes_before is_before
same_order c d e =
    ap (λ n. is_lt (ordering_then (nat_cmp d.corner.area c.corner.area) (ordering_then (point_cmp d.corner.point c.corner.point) (ordering_then (nat_cmp n c.arc) (nat_cmp d.corner.index c.corner.index))))) e
    ∙ ap (λ o. is_lt (ordering_then (nat_cmp d.corner.area c.corner.area) (ordering_then (point_cmp d.corner.point c.corner.point) (ordering_then o (nat_cmp d.corner.index c.corner.index))))) (level c.arc)

abbrev pub corner_of : ArcCorner → Corner
corner_of c = c.corner

lesser_first : (k : ℕ) (c : ArcCorner) (o : Option ArcCorner) → c.arc ≡ k → Holds (λ d. d.arc ≡ k) o → lesser (Some c.corner) (map_some corner_of o) ≡ map_some corner_of (earlier (Some c) o)
lesser_first k c None h m = refl
lesser_first k c (Some d) h m =
    ap (λ b. Some (if b then d.corner else c.corner)) (sym (same_order c d (m ∙ sym h))) ∙ ap Some (chosen_of corner_of (goes_before d c) d c)

pub least_first : (k : ℕ) (cs : List ArcCorner) → AllByRecursion (λ c. c.arc ≡ k) cs → least (map corner_of cs) ≡ map_some corner_of (first_corner cs)
least_first k [] h = refl
least_first k (c ∷ cs) h = ap (lesser (Some c.corner)) (least_first k cs h.1) ∙ lesser_first k c (first_corner cs) h.0 (first_holds (λ d. d.arc ≡ k) cs h.1)

-- ---- where another arc comes first

pub next_cmp : (m n : ℕ) → nat_cmp (suc m) (suc n) ≡ nat_cmp m n
next_cmp m n = grind (arith, nat_tests)

pub moved_order : (g : ℕ → ℕ) → ((m n : ℕ) → nat_cmp (g m) (g n) ≡ nat_cmp m n) → (c d : ArcCorner) → goes_before (moved g d) (moved g c) ≡ goes_before d c
unfolding goes_before
moved_order g h c d = ap (λ o. is_lt (ordering_then (nat_cmp d.corner.area c.corner.area) (ordering_then (point_cmp d.corner.point c.corner.point) (ordering_then o (nat_cmp d.corner.index c.corner.index))))) (h d.arc c.arc)

earlier_next : (c : ArcCorner) (o : Option ArcCorner) → earlier (Some (in_next_arc c)) (map_some in_next_arc o) ≡ map_some in_next_arc (earlier (Some c) o)
earlier_next c None = refl
earlier_next c (Some d) = ap (λ b. Some (if b then in_next_arc d else in_next_arc c)) (moved_order suc next_cmp c d) ∙ ap Some (chosen_of in_next_arc (goes_before d c) d c)

pub first_next : (cs : List ArcCorner) → first_corner (map in_next_arc cs) ≡ map_some in_next_arc (first_corner cs)
first_next [] = refl
first_next (c ∷ cs) = ap (earlier (Some (in_next_arc c))) (first_next cs) ∙ earlier_next c (first_corner cs)
