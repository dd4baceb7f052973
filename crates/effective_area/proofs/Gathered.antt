-- What loops over weights have gathered so far.
use Rattle.std.proofs.Common.{◌≡◌, ℕ, ◌+◌, ◌<◌, ◌≤◌, Bool, cond, List, [], ◌∷◌, ◌++◌, Option, length, map, get_or, take, refl, ap, sym, ◌∙◌, arith, append_assoc}
use Rattle.std.specs.List.{cons_option, filter, filter_map, range_with_len}
use Rattle.std.proofs.lemmas.List.{append-nil, get_or_default, map-append, take_more}
use Rattle.std.proofs.lemmas.List.Elements.{filter-append, filter_map-append}
use Rattle.geometry.specs.Lists.{joined}
use Rattle.owned_values.proofs.Lists.{joined_append, take_here}
use Rattle.effective_area.proofs.Scan.{indexes_more}
use Rattle.effective_area.specs.Shares.{area_of, interior_weights, kept_at, stays_at}
use Rattle.effective_area.specs.declared.weight.Weight.{Weight}
use Rattle.effective_area.specs.declared.weight.Weight.TheVariants.{End}

-- with those of one line more
pub lines_more : {V : Type 0} (f : V → List Weight) (vs : List V) (i : ℕ) (v : V) → i < length vs → v ≡ get_or vs i v
    → interior_weights (map f (take (i + 1) vs)) ≡ interior_weights (map f (take i vs)) ++ filter_map area_of (f v)
lines_more f vs i v within is =
    ap (λ l. interior_weights (map f l)) (take_here vs i v within is)
    ∙ ap interior_weights (map-append f (take i vs) (v ∷ []))
    ∙ ap joined (map-append (filter_map area_of) (map f (take i vs)) (f v ∷ []))
    ∙ joined_append (map (filter_map area_of) (map f (take i vs))) (filter_map area_of (f v) ∷ [])
    ∙ ap (λ l. interior_weights (map f (take i vs)) ++ l) (append-nil (filter_map area_of (f v)))

-- with that of one position more, unless it is an end
pub areas_more : (ws : List Weight) (i : ℕ) (d : Weight) (o : Option ℕ) (prefix old new : List ℕ) → i < length ws → o ≡ area_of (get_or ws i d)
    → old ≡ prefix ++ filter_map area_of (take i ws) → new ≡ old ++ cons_option o [] → new ≡ prefix ++ filter_map area_of (take (i + 1) ws)
areas_more ws i d o prefix old new within e was pushed =
    pushed ∙ ap (λ l. l ++ cons_option o []) was ∙ append_assoc prefix (filter_map area_of (take i ws)) (cons_option o [])
    ∙ ap (λ p. prefix ++ (filter_map area_of (take i ws) ++ cons_option p [])) e
    ∙ ap (λ l. prefix ++ l) (sym (ap (filter_map area_of) (take_more ws i d within) ∙ filter_map-append area_of (take i ws) (get_or ws i d ∷ [])))

-- with the index of one position more, if it stays
pub indexes_kept_more : (t : ℕ) (ws : List Weight) (i : ℕ) (d : Weight) (b : Bool) (old new : List ℕ) → i < length ws → b ≡ stays_at t (get_or ws i d)
    → old ≡ filter (λ j. stays_at t (get_or ws j End)) (range_with_len 0 i) → new ≡ old ++ cond b (i ∷ []) [] → new ≡ filter (λ j. stays_at t (get_or ws j End)) (range_with_len 0 (i + 1))
indexes_kept_more t ws i d b old new within e was pushed =
    pushed ∙ ap (λ l. l ++ cond b (i ∷ []) []) was
    ∙ ap (λ c. filter (λ j. stays_at t (get_or ws j End)) (range_with_len 0 i) ++ cond c (i ∷ []) []) (e ∙ ap (stays_at t) (get_or_default ws i d End within))
    ∙ sym (filter-append (λ j. stays_at t (get_or ws j End)) (range_with_len 0 i) (i ∷ []))
    ∙ ap (filter (λ j. stays_at t (get_or ws j End))) (indexes_more i (range_with_len 0 i) (range_with_len 0 i ++ (i ∷ [])) refl refl)

-- all of them
pub indexes_kept_all : (t : ℕ) (ws : List Weight) (i : ℕ) (kept : List ℕ) → i ≤ length ws → length ws ≤ i → kept ≡ filter (λ j. stays_at t (get_or ws j End)) (range_with_len 0 i) → kept ≡ kept_at t ws
unfolding kept_at
indexes_kept_all t ws i kept l m e = let n : i ≡ length ws = omega arith in e ∙ ap (λ k. filter (λ j. stays_at t (get_or ws j End)) (range_with_len 0 k)) n
