-- The order of places.
use Rattle.std.proofs.Common.{◌≡◌, ℕ, ◌+◌, ◌<◌, zero, suc, List, [], ◌∷◌, ◌++◌, length, map, slice_index, slice_index_or, sym, ap, subst, ◌∙◌, arith, zero-add, add-one}
use Rattle.std.specs.List.{range_with_len, Contains}
use Rattle.std.specs.List.Sorted.{IsPermutation}
use Rattle.std.proofs.lemmas.List.{get_or_default, map-append}
use Rattle.std.proofs.lemmas.List.Elements.{All-get_or, Contains-get_or}
use Rattle.std.proofs.lemmas.List.FromFn.{length-range_with_len, get_or-range_with_len}
use Rattle.std.proofs.lemmas.List.Sorted.{All-permutation, Contains-permutation, length_permutation, IsPermutation-map}
use Rattle.effective_area.proofs.Scan.{all_inside}
use Rattle.guarded_reduction.specs.declared.index.ordering.Key.{Key}
use Rattle.guarded_reduction.specs.Orders.{AreRanks, place_of}
use Rattle.guarded_reduction.specs.Indexes.{IsOrder}

range_more : (a n : ℕ) → range_with_len a (suc n) ≡ range_with_len a n ++ (a + n) ∷ []
range_more a zero = ap (λ (k : ℕ). k ∷ []) (omega arith)
range_more a (suc n) = ap (λ (ks : List ℕ). a ∷ ks) (range_more (a + 1) n ∙ ap (λ (k : ℕ). range_with_len (a + 1) n ++ k ∷ []) (omega arith))

-- one more key
pub keys_more : (ks ls : List Key) (k : Key) (n : ℕ) → map place_of ks ≡ range_with_len 0 n → ls ≡ ks ++ k ∷ [] → k.place ≡ n → map place_of ls ≡ range_with_len 0 (n + 1)
keys_more ks ls k n h e p =
    ap (λ (xs : List Key). map place_of xs) e ∙ map-append place_of ks (k ∷ []) ∙ ap (λ (xs : List ℕ). xs ++ k.place ∷ []) h ∙ ap (λ (j : ℕ). range_with_len 0 n ++ j ∷ []) (p ∙ sym (zero-add n)) ∙ sym (range_more 0 n)
    ∙ ap (λ (j : ℕ). range_with_len 0 j) (sym (add-one n))

-- the places are those of the keys
pub places_ordered : (n : ℕ) (ks ls : List Key) (ps : List ℕ) → map place_of ks ≡ range_with_len 0 n → IsPermutation ks ls → ps ≡ map place_of ls → IsPermutation (range_with_len 0 n) ps
places_ordered n ks ls ps e p q = subst (λ (xs : List ℕ). IsPermutation xs ps) e (subst (λ (ys : List ℕ). IsPermutation (map place_of ks) ys) (sym q) (IsPermutation-map place_of ks ls p))

pub places_within : (n : ℕ) (ps : List ℕ) → IsPermutation (range_with_len 0 n) ps → length ps ≡ n
places_within n ps p = length_permutation _ _ p ∙ length-range_with_len 0 n

pub places_below : (n : ℕ) (ps : List ℕ) → IsPermutation (range_with_len 0 n) ps → (r : ℕ) → r < length ps → slice_index ps r < length ps
places_below n ps p r h = subst (λ (k : ℕ). slice_index ps r < k) (sym (places_within n ps p)) (All-get_or (λ z. z < n) ps r 0 h (All-permutation (λ z. z < n) _ ps p (all_inside n)))

contains : (n : ℕ) (ps : List ℕ) → IsPermutation (range_with_len 0 n) ps → (z : ℕ) → z < n → Contains ps z
contains n ps p z h = Contains-permutation _ ps z p (subst (λ (k : ℕ). Contains (range_with_len 0 n) k) (get_or-range_with_len 0 n z 0 h ∙ zero-add z) (Contains-get_or (range_with_len 0 n) z 0 (subst (λ (k : ℕ). z < k) (sym (length-range_with_len 0 n)) h)))

-- places in order and their ranks
pub ordered : (n : ℕ) (ps rs : List ℕ) → IsPermutation (range_with_len 0 n) ps → length rs ≡ length ps → AreRanks ps rs (length ps) → IsOrder ps rs n
ordered n ps rs p e a = record {
  as_many_places = places_within n ps p;
  as_many_ranks = e ∙ places_within n ps p;
  place = λ r h. subst (λ (k : ℕ). slice_index ps r < k) (places_within n ps p) (places_below n ps p r (subst (λ (k : ℕ). r < k) (sym (places_within n ps p)) h));
  rank = λ z h. rank_of z (contains n ps p z h);
  back = λ z h. back_of z (contains n ps p z h);
}
  where
    is_at : (z k : ℕ) → k < length ps → slice_index_or ps k z ≡ z → slice_index ps k ≡ z
    is_at z k h q = get_or_default ps k 0 z h ∙ q

    rank_of : (z : ℕ) → Contains ps z → slice_index rs z < n
    rank_of z (k, h, q) = subst (λ (j : ℕ). slice_index rs z < j) (places_within n ps p) (subst (λ (j : ℕ). slice_index rs j < length ps) (is_at z k h q) (a.within k h))

    back_of : (z : ℕ) → Contains ps z → slice_index ps (slice_index rs z) ≡ z
    back_of z (k, h, q) = subst (λ (j : ℕ). slice_index ps (slice_index rs j) ≡ j) (is_at z k h q) (a.back k h)
