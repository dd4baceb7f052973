-- What a search has shown.
use Rattle.std.proofs.Common.{◌≡◌, ℕ, ◌+◌, ◌-◌, ◌*◌, ◌<◌, ◌≤◌, Bool, true, false, ◌&&◌, length, slice_index, Option, None, Some, sym, ap, subst, ◌∙◌, ◌⊎◌, inl, inr, arith}
use Rattle.std.specs.Option.{IfNone}
use Rattle.std.proofs.lemmas.Bool.{false_from_ne_true, and_from}
use Rattle.geometry.specs.Points.{Point}
use Rattle.planar_predicates.specs.declared.extent.Extent.{Extent}
use Rattle.guarded_reduction.specs.declared.index.box_tree.BoxTree.{BoxTree}
use Rattle.planar_predicates.specs.Extents.{HoldsPoint}
use Rattle.guarded_reduction.specs.Tests.{IsOutside, Test, Reaches}
use Rattle.guarded_reduction.specs.Indexes.{NoneMeets, IsIndex, NoneMeetsUnder, is_left_at, point_at}
use Rattle.guarded_reduction.specs.Trees.{extent_at, Under}
use Rattle.guarded_reduction.proofs.Trees.{under_leaf, under_cases, under_first}

-- a node's box holds the position of a place that is left under it
held_under : (x : BoxTree) (node z : ℕ) → IsIndex x → 0 < node → node < length x.extents.items → z < length x.positions.items → is_left_at x.present.items z ≡ true →
    Under node (length x.positions.items + slice_index x.ranks.items z) → HoldsPoint (extent_at x.extents.items node) (point_at x.positions.items z)
held_under x node z i a b w l u =
    let q : slice_index x.places.items (slice_index x.ranks.items z) ≡ z = i.order.back z w in
    subst (λ (y : ℕ). HoldsPoint (extent_at x.extents.items node) (point_at x.positions.items y)) q
    ((i.fitted.holds node a b).holds (slice_index x.ranks.items z) (i.order.rank z w) (subst (λ (y : ℕ). is_left_at x.present.items y ≡ true) (sym q) l) u)

-- where a node's box does not meet the corner's, nothing under it meets the test
pub pruned : (x : BoxTree) (node : ℕ) (e : Extent) (test : Test) (m : Bool) → IsIndex x → 0 < node → node < length x.extents.items → Reaches e test →
    ((p : Point) → HoldsPoint (extent_at x.extents.items node) p → HoldsPoint e p → m ≡ true) → m ≡ false → NoneMeetsUnder x node test
pruned x node e test m i a b r h n = record { fails = λ z w l u. false_from_ne_true _ (λ s. no z w l u s) }
  where
    no : (z : ℕ) → z < length x.positions.items → is_left_at x.present.items z ≡ true → Under node (length x.positions.items + slice_index x.ranks.items z) →
        test z (point_at x.positions.items z) ≡ true → ⊥
    no z w l u s =
        let t : m ≡ true = h (point_at x.positions.items z) (held_under x node z i a b w l u) (r.holds z (point_at x.positions.items z) s) in
        cc

-- where a node's box holds nothing that meets the test, nothing under it meets the test
pub outside : (x : BoxTree) (node : ℕ) (test : Test) → IsIndex x → 0 < node → node < length x.extents.items → IsOutside (extent_at x.extents.items node) test → NoneMeetsUnder x node test
outside x node test i a b o = record { fails = λ z w l u. false_from_ne_true _ (λ s. o.fails z (point_at x.positions.items z) (held_under x node z i a b w l u) s) }

-- what lies outside of a box that holds whatever meets the test doesn't
pub beyond_reach : (e : Extent) (test : Test) (z : ℕ) (p : Point) (m : Bool) → Reaches e test → (HoldsPoint e p → m ≡ true) → m ≡ false → test z p ≡ false
beyond_reach e test z p m r h n = false_from_ne_true _ (λ s. let t : m ≡ true = h (r.holds z p s) in cc)

-- what isn't so is not both
pub not_both : (m a b : Bool) → m ≡ false → b ≡ false → m ≡ (a && b)
not_both m true b h n = h ∙ sym n
not_both m false b h n = h

-- a leaf's place does not meet the test
pub leaf_clear : (x : BoxTree) (leaf place : ℕ) (test : Test) → IsIndex x → length x.positions.items ≤ leaf → place ≡ slice_index x.places.items (leaf - length x.positions.items) →
    (is_left_at x.present.items place && test place (point_at x.positions.items place)) ≡ false → NoneMeetsUnder x leaf test
leaf_clear x leaf place test i a e h = record { fails = λ z w l u. false_from_ne_true _ (λ s. no z w l u s) }
  where
    no : (z : ℕ) → z < length x.positions.items → is_left_at x.present.items z ≡ true → Under leaf (length x.positions.items + slice_index x.ranks.items z) →
        test z (point_at x.positions.items z) ≡ true → ⊥
    no z w l u s =
        let k : slice_index x.ranks.items z < length x.positions.items = i.order.rank z w in
        let j : length x.positions.items + slice_index x.ranks.items z ≡ leaf = under_leaf (length x.positions.items) leaf _ a (omega arith) u in
        let d : leaf - length x.positions.items ≡ slice_index x.ranks.items z = omega arith in
        let q : place ≡ z = e ∙ ap (λ (n : ℕ). slice_index x.places.items n) d ∙ i.order.back z w in
        let t : (is_left_at x.present.items z && test z (point_at x.positions.items z)) ≡ false = subst (λ (y : ℕ). (is_left_at x.present.items y && test y (point_at x.positions.items y)) ≡ false) q h in
        let f : (is_left_at x.present.items z && test z (point_at x.positions.items z)) ≡ true = and_from _ _ l s in
        cc

-- nothing under a node's children meets the test
pub both_clear : (x : BoxTree) (node : ℕ) (test : Test) → node < length x.positions.items → NoneMeetsUnder x (2 * node) test → NoneMeetsUnder x (2 * node + 1) test → NoneMeetsUnder x node test
both_clear x node test a l r = record { fails = λ z w p u. by z w p (under_cases node _ u) }
  where
    by : (z : ℕ) → z < length x.positions.items → is_left_at x.present.items z ≡ true →
        (node ≡ length x.positions.items + slice_index x.ranks.items z) ⊎ (Under (2 * node) (length x.positions.items + slice_index x.ranks.items z) ⊎ Under (2 * node + 1) (length x.positions.items + slice_index x.ranks.items z)) →
        test z (point_at x.positions.items z) ≡ false
    by z w p (inl e) = absurd (omega arith)
    by z w p (inr (inl u)) = l.fails z w p u
    by z w p (inr (inr u)) = r.fails z w p u

-- nothing at all meets the test
pub all_clear : (x : BoxTree) (test : Test) → 0 < length x.positions.items → NoneMeetsUnder x 1 test → NoneMeets x.positions.items x.present.items test
all_clear x test n h = record { fails = λ z w l. h.fails z w l (under_first (length x.positions.items + slice_index x.ranks.items z) (length x.positions.items + slice_index x.ranks.items z) (omega arith) (omega arith)) }

-- nothing was found under the first child, and nothing under the second
pub none_of_both : (r : Option ℕ) (x : BoxTree) (node : ℕ) (test : Test) → node < length x.positions.items → NoneMeetsUnder x (2 * node) test → IfNone r (NoneMeetsUnder x (2 * node + 1) test) → IfNone r (NoneMeetsUnder x node test)
none_of_both None x node test a l r = both_clear x node test a l r
none_of_both (Some z) x node test a l r = r

-- nothing was found under the first
pub none_at_all : (r : Option ℕ) (x : BoxTree) (test : Test) → 0 < length x.positions.items → IfNone r (NoneMeetsUnder x 1 test) → IfNone r (NoneMeets x.positions.items x.present.items test)
none_at_all None x test n h = all_clear x test n h
none_at_all (Some z) x test n h = h
