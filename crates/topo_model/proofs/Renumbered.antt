-- Ranks of arcs, and indexes by these.
use Rattle.std.proofs.Common.{◌≡◌, ℕ, zero, suc, ◌+◌, ◌<◌, ◌≤◌, ℤ, pos, negsuc, ◌-ℤ◌, Bool, true, false, List, [], ◌∷◌, ◌++◌, map, length, get_or, if◌then◌else◌, refl, sym, ap, ◌∙◌, arith}
use Rattle.std.specs.Prelude.{slice_get, Some}
use Rattle.std.proofs.lemmas.Option.{slice_get-get_or}
use Rattle.build_meaning.specs.Trimming.{new_index_from, renumbered}
use Rattle.geometry.specs.Joins.{AreInRange, number_of, is_reversed}
use Rattle.topo_model.specs.Renumbering.{directed_as, renumbered_by}
use Rattle.topo_model.specs.Uses.{answers}

-- ---- answers

answers_end : {X : Type 0} (f : ℕ → X) (n count k : ℕ) → k ≡ n + count → answers f n (suc count) ≡ answers f n count ++ f k ∷ []
answers_end f n zero k e = let same : n ≡ k = omega (arith, e) in ap (λ j. f j ∷ []) same
answers_end f n (suc count) k e = ap (λ zs. f n ∷ zs) (answers_end f (suc n) count k (omega (arith, e)))

pub answers_more : {X : Type 0} (f : ℕ → X) (i : ℕ) → answers f 0 (i + 1) ≡ answers f 0 i ++ f i ∷ []
answers_more f i = let same : i + 1 ≡ suc i = omega arith in ap (answers f 0) same ∙ answers_end f 0 i i (omega arith)

answers_get : {X : Type 0} (f : ℕ → X) (n count i k : ℕ) (d : X) → k ≡ n + i → i < count → get_or (answers f n count) i d ≡ f k
answers_get f n zero i k d e lt = absurd (omega (arith, lt))
answers_get f n (suc count) zero k d e lt = let same : n ≡ k = omega (arith, e) in ap f same
answers_get f n (suc count) (suc i) k d e lt = answers_get f (suc n) count i k d (omega (arith, e)) (omega (arith, lt))

pub answers_at : {X : Type 0} (f : ℕ → X) (xs : List X) (count i : ℕ) (d x : X) → xs ≡ answers f 0 count → i < count → get_or xs i d ≡ x → f i ≡ x
answers_at f xs count i d x are lt is = sym (ap (λ ys. get_or ys i d) are ∙ answers_get f 0 count i i d (omega arith) lt) ∙ is

-- ---- new indexes of arcs

swapped : (a b : Bool) (r : ℕ) → (if b then suc (if a then suc r else r) else (if a then suc r else r)) ≡ (if a then suc (if b then suc r else r) else (if b then suc r else r))
swapped a b r = grind arith

new_index_end : (u : ℕ → Bool) (n count k : ℕ) → k ≡ n + count → new_index_from u n (suc count) ≡ (if u k then suc (new_index_from u n count) else new_index_from u n count)
new_index_end u n zero k e = let same : n ≡ k = omega (arith, e) in ap (λ j. if u j then suc zero else zero) same
new_index_end u n (suc count) k e = grind (arith, swapped, new_index_end u (suc n) count k (omega (arith, e)))

pub new_index_more : (u : ℕ → Bool) (i : ℕ) → new_index_from u 0 (i + 1) ≡ (if u i then suc (new_index_from u 0 i) else new_index_from u 0 i)
new_index_more u i = let same : i + 1 ≡ suc i = omega arith in ap (new_index_from u 0) same ∙ new_index_end u 0 i i (omega arith)

-- the new index of the next arc, and those of the arcs before it
abbrev pub AreNewIndexes : List Bool → ℕ → ℕ → List ℤ → Type 0
AreNewIndexes used i new_index renumbering = (u : ℕ → Bool) → used ≡ answers u 0 (length used) → (new_index ≡ new_index_from u 0 i) × (renumbering ≡ answers (λ j. pos (new_index_from u 0 j)) 0 i)

-- the new index of the next arc and those of the arcs before it, with bounds
abbrev pub Renumbered : List Bool → ℕ → ℕ → List ℤ → Type 0
Renumbered used i new_index renumbering = (new_index ≤ i) × (length renumbering ≡ i) × AreNewIndexes used i new_index renumbering

renumbering_more : (used : List Bool) (i new_index next : ℕ) (renumbering more : List ℤ) (flag : Bool) → i < length used → get_or used i false ≡ flag → next ≡ (if flag then suc new_index else new_index)
    → more ≡ renumbering ++ pos new_index ∷ [] → AreNewIndexes used i new_index renumbering → AreNewIndexes used (i + 1) next more
renumbering_more used i new_index next renumbering more flag lt is n m so_far u are = grind (arith, answers_at, new_index_more, answers_more)

one_longer : (renumbering : List ℤ) (z : ℤ) → length (renumbering ++ z ∷ []) ≡ length renumbering + 1
one_longer [] z = omega arith
one_longer (r ∷ renumbering) z = let rest = one_longer renumbering z in omega (arith, rest)

pub new_index_set : (used : List Bool) (i new_index next : ℕ) (renumbering more : List ℤ) → i < length used → get_or used i false ≡ true → next ≡ new_index + 1 → more ≡ renumbering ++ pos new_index ∷ [] → Renumbered used i new_index renumbering
    → Renumbered used (i + 1) next more
new_index_set used i new_index next renumbering more lt is n m so_far = grind (arith, one_longer renumbering (pos new_index), renumbering_more used i new_index next renumbering more true lt is)

pub new_index_unset : (used : List Bool) (i new_index next : ℕ) (renumbering more : List ℤ) → i < length used → get_or used i false ≡ false → next ≡ new_index → more ≡ renumbering ++ pos new_index ∷ [] → Renumbered used i new_index renumbering
    → Renumbered used (i + 1) next more
new_index_unset used i new_index next renumbering more lt is n m so_far = grind (arith, one_longer renumbering (pos new_index), renumbering_more used i new_index next renumbering more false lt is n m so_far.2)

-- ---- indexes

-- the new indexes of the arcs that pass
abbrev pub NewIndexesOf : List ℤ → (ℕ → Bool) → Type 0
NewIndexesOf renumbering u = renumbering ≡ answers (λ i. pos (new_index_from u 0 i)) 0 (length renumbering)

complement : (r : ℕ) → negsuc 0 -ℤ pos r ≡ negsuc r
complement r = grind arith

-- ---- by the list of new indexes

pub by_new_index_forwards : (renumbering : List ℤ) (index new_index : ℤ) → slice_get renumbering (number_of index) ≡ Some new_index → is_reversed index ≡ false → new_index ≡ renumbered_by renumbering index
unfolding is_reversed
by_new_index_forwards renumbering index new_index e f = grind arith

pub by_new_index_backwards : (renumbering : List ℤ) (index new_index turned : ℤ) → slice_get renumbering (number_of index) ≡ Some new_index → is_reversed index ≡ true → turned ≡ negsuc 0 -ℤ new_index → turned ≡ renumbered_by renumbering index
unfolding is_reversed
by_new_index_backwards renumbering index new_index turned e b t = grind arith

directed_new_index : (u : ℕ → Bool) (r : ℤ) → directed_as r (pos (new_index_from u 0 (number_of r))) ≡ renumbered u r
unfolding number_of
directed_new_index u r = grind (arith, complement)

-- where the list has the new indexes of the arcs that pass, this is the index among these
renumbered_same : (renumbering : List ℤ) (u : ℕ → Bool) (index : ℤ) → NewIndexesOf renumbering u → number_of index < length renumbering → renumbered_by renumbering index ≡ renumbered u index
renumbered_same renumbering u index are lt = grind (arith, slice_get-get_or renumbering (number_of index) (pos 0) lt, answers_at, directed_new_index u index)

-- each index of a line or ring is renumbered as it is among the arcs that pass
pub all_renumbered : (renumbering : List ℤ) (u : ℕ → Bool) (refs : List ℤ) → NewIndexesOf renumbering u → AreInRange (length renumbering) refs → map (renumbered_by renumbering) refs ≡ map (renumbered u) refs
all_renumbered renumbering u [] are h = refl
all_renumbered renumbering u (r ∷ refs) are h = ap (λ z. z ∷ map (renumbered_by renumbering) refs) (renumbered_same renumbering u r are h.0) ∙ ap (λ zs. renumbered u r ∷ zs) (all_renumbered renumbering u refs are h.1)
