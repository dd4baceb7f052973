-- What stays by the weights of a line is what a reducer keeps.
use Rattle.std.proofs.Common.{◌≡◌, ℕ, ◌<◌, nat_lt, Bool, not, List, [], ◌∷◌, Option, Some, None, length, map, get_or, leb, refl, ap, sym, ◌∙◌, arith}
use Rattle.std.specs.List.{filter, range_with_len, AllByRecursion}
use Rattle.std.proofs.lemmas.Bool.Decides.{nat_tests}
use Rattle.std.proofs.lemmas.List.Elements.{recursion_from_All}
use Rattle.std.proofs.lemmas.List.FromFn.{length-range_with_len, get_or-range_with_len, length-map-range_with_len, get_or-map-range_with_len}
use Rattle.elimination_meaning.specs.Weights.{weight, is_kept_at}
use Rattle.elimination_meaning.proofs.Weights.{kept_by_weight}
use Rattle.effective_area.specs.Shares.{KeptAtIsReduced, kept_at, stays_at}
use Rattle.effective_area.specs.Weights.{reported, weights_of}
use Rattle.effective_area.specs.declared.weight.Weight.{Weight}
use Rattle.effective_area.specs.declared.weight.Weight.TheVariants.{End}

-- two tests that agree at each of these
pub filter_same : (p q : ℕ → Bool) (xs : List ℕ) → AllByRecursion (λ x. p x ≡ q x) xs → filter p xs ≡ filter q xs
filter_same p q [] h = refl
filter_same p q (x ∷ xs) h = rw (h.0, filter_same p q xs h.1) refl

stays_reported : (t : ℕ) (o : Option ℕ) → stays_at t (reported o) ≡ is_kept_at t o
stays_reported t None = refl
stays_reported t (Some w) = same w
  where
    same : (w : ℕ) → leb t w ≡ not (nat_lt w t)
    same w = grind (arith, nat_tests)

pub kept_at_is_reduced : KeptAtIsReduced
unfolding kept_at weights_of
kept_at_is_reduced t ps =
    ap (λ n. filter (λ i. stays_at t (get_or ws i End)) (range_with_len 0 n)) (length-map-range_with_len (λ i. reported (weight ps i)) 0 (length ps))
    ∙ filter_same (λ i. stays_at t (get_or ws i End)) (λ i. is_kept_at t (weight ps i)) (range_with_len 0 (length ps))
    (recursion_from_All (λ i. stays_at t (get_or ws i End) ≡ is_kept_at t (weight ps i)) (range_with_len 0 (length ps)) (λ k d h. each (get_or (range_with_len 0 (length ps)) k d) (within k d h)))
    ∙ sym (kept_by_weight t ps)
  where
    ws : List Weight
    ws = map (λ i. reported (weight ps i)) (range_with_len 0 (length ps))

    each : (i : ℕ) → i < length ps → stays_at t (get_or ws i End) ≡ is_kept_at t (weight ps i)
    each i h = ap (stays_at t) (get_or-map-range_with_len (λ j. reported (weight ps j)) 0 (length ps) i i End h (omega arith)) ∙ stays_reported t (weight ps i)

    within : (k d : ℕ) → k < length (range_with_len 0 (length ps)) → get_or (range_with_len 0 (length ps)) k d < length ps
    within k d h = omega (arith, h, length-range_with_len 0 (length ps), get_or-range_with_len 0 (length ps) k d (omega (arith, h, length-range_with_len 0 (length ps))))
