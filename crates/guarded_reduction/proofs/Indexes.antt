-- An index is made, and a place is taken away.
use Rattle.std.proofs.Common.{◌≡◌, ℕ, ◌<◌, ◌≤◌, Bool, true, false, List, length, slice_index, slice_index_or, slice_set, sym, ap, subst, ◌∙◌, ◌⊎◌, inl, inr, get_or-set_same, get_or-set_other, length-set}
use Rattle.std.specs.List.{range_with_len}
use Rattle.std.specs.List.Sorted.{IsPermutation}
use Rattle.std.proofs.lemmas.Bool.{cases_eq}
use Rattle.geometry.specs.Points.{Point}
use Rattle.planar_predicates.specs.declared.extent.Extent.{Extent}
use Rattle.guarded_reduction.specs.declared.index.box_tree.BoxTree.{BoxTree}
use Rattle.guarded_reduction.specs.Indexes.{AreFitted, AreLeaves, IsIndex, is_left_at}
use Rattle.guarded_reduction.specs.Orders.{AreRanks}
use Rattle.guarded_reduction.proofs.Orders.{ordered, places_below, places_within}

-- each leaf has a place
pub leaves_of : (ps : List Point) (bs : List Bool) (places : List ℕ) → length bs ≡ length ps → IsPermutation (range_with_len 0 (length ps)) places → AreLeaves ps bs places
leaves_of ps bs places b p =
    let n : length places ≡ length ps = places_within (length ps) places p in
    record { present = b; as_many_places = n; place = λ r h. subst (λ (k : ℕ). slice_index places r < k) n (places_below (length ps) places p r (subst (λ (k : ℕ). r < k) (sym n) h)) }

pub made : (x : BoxTree) → IsPermutation (range_with_len 0 (length x.positions.items)) x.places.items → length x.ranks.items ≡ length x.places.items → AreRanks x.places.items x.ranks.items (length x.places.items) →
    length x.present.items ≡ length x.positions.items → length x.extents.items ≤ length x.positions.items → AreFitted x.extents.items x.positions.items x.present.items x.places.items 1 → IsIndex x
made x p e a b l f = record { present = b; order = ordered (length x.positions.items) x.places.items x.ranks.items p e a; few = l; fitted = f }

-- a place that is left after another was taken away is another, and was left
pub left_before : (bs : List Bool) (k z : ℕ) → k < length bs → is_left_at (slice_set bs k false) z ≡ true → (z ≡ k → ⊥) × (is_left_at bs z ≡ true)
unfolding is_left_at
left_before bs k z h l = by (cases_eq z k)
  where
    by : (z ≡ k) ⊎ (z ≡ k → ⊥) → (z ≡ k → ⊥) × (slice_index_or bs z false ≡ true)
    by (inl e) = let s : slice_index_or (slice_set bs k false) z false ≡ false = ap (λ (j : ℕ). slice_index_or (slice_set bs k false) j false) e ∙ get_or-set_same bs k false false h in cc
    by (inr n) = (n, sym (get_or-set_other bs k z false false n) ∙ l)

-- without a place boxes hold what is left
pub fitted_without : (es : List Extent) (ps : List Point) (bs : List Bool) (places : List ℕ) (k : ℕ) → k < length bs → AreFitted es ps bs places 1 → AreFitted es ps (slice_set bs k false) places 1
fitted_without es ps bs places k h f = record { holds = λ i a b. record { holds = λ r w l u. (f.holds i a b).holds r w (left_before bs k (slice_index places r) h l).1 u } }

-- the leaves of an index
pub leaves_without : (x : BoxTree) (k : ℕ) → IsIndex x → AreLeaves x.positions.items (slice_set x.present.items k false) x.places.items
leaves_without x k i = record { present = length-set x.present.items k false ∙ i.present; as_many_places = i.order.as_many_places; place = i.order.place }
