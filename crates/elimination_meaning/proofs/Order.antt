-- The order of corners is total and exact, so the least of several is the same in any order of them.
use Rattle.std.proofs.Common.{◌≡◌, Bool, true, false, List, [], ◌∷◌, ◌++◌, Option, Some, refl, ap, sym, ◌∙◌, if◌then◌else◌, arith}
use Rattle.std.specs.Cmp.{IsTotalOrder, IsStrictWeakOrder}
use Rattle.std.specs.Ordering.{is_lt}
use Rattle.std.specs.declared.cmp.Ordering.TheVariants.{Equal}
use Rattle.std.proofs.lemmas.Cmp.{on_total, then_total, nat_cmp_total, int_cmp_total}
use Rattle.std.proofs.lemmas.List.MinMax.{ranks_by}
use Rattle.std.proofs.lemmas.Map.Lookups.{exact_unsigned}
use Rattle.geometry.proofs.Points.{point_exact, then_equal}
use Rattle.elimination_meaning.specs.Elimination.{Corner, corner_cmp, is_before, lesser, least}

pub corner_total : IsTotalOrder corner_cmp
corner_total = then_total (on_total (λ c. c.area) nat_cmp_total) (then_total
    (on_total (λ c. c.point) (then_total (on_total (λ p. p.x) int_cmp_total) (on_total (λ p. p.y) int_cmp_total)))
    (on_total (λ c. c.index) nat_cmp_total))

before_order : IsStrictWeakOrder is_before
unfolding is_before
before_order = ranks_by corner_total (λ c. c)

corner_exact : (c d : Corner) → corner_cmp c d ≡ Equal → c ≡ d
corner_exact c d h = grind (arith, then_equal, exact_unsigned c.area d.area, exact_unsigned c.index d.index, point_exact c.point d.point)

-- two corners of which neither goes before the other are one
pub one_corner : (c d : Corner) → is_before c d ≡ false → is_before d c ≡ false → c ≡ d
unfolding is_before
one_corner c d h k = grind (arith, corner_exact c d, is_lt)

before_chain : (a b c : Corner) → is_before c b ≡ true → is_before b a ≡ true → is_before c a ≡ true
before_chain a b c p q = grind (arith, before_order.chain, before_order.one_way)

comm_at : (c d : Corner) (p q : Bool) → is_before d c ≡ p → is_before c d ≡ q → (if p then d else c) ≡ (if q then c else d)
comm_at c d p q e f = grind (arith, before_order.one_way, one_corner)

pub lesser_comm : (c d : Option Corner) → lesser c d ≡ lesser d c
lesser_comm c d = grind (arith, comm_at)

assoc_at : (a b c : Corner) (p q r : Bool) → is_before b a ≡ p → is_before c b ≡ q → is_before c a ≡ r →
    (if is_before c (if p then b else a) then c else (if p then b else a)) ≡ (if is_before (if q then c else b) a then (if q then c else b) else a)
assoc_at a b c p q r e f g = grind (arith, before_chain, before_order.chain)

pub least_append : (cs ds : List Corner) → least (cs ++ ds) ≡ lesser (least cs) (least ds)
least_append [] ds = refl
least_append (c ∷ cs) ds = ap (lesser (Some c)) (least_append cs ds) ∙ sym (grind (arith, assoc_at))
