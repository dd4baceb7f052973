-- How many positions between the ends of arcs stay.
use Rattle.std.proofs.Common.{◌≡◌, ℕ, suc, ◌+◌, ◌<◌, Bool, true, false, cond, List, [], ◌∷◌, length, map, Option, inl, refl, ap, sym, ◌∙◌, subst, if◌then◌else◌, arith}
use Rattle.guarded_meaning.proofs.Names.{length-append, length-map, map-append, each_of, all_of_map, sum_by-cons, sum_by-append, AllByRecursion, filter, count_by, In, joined, all_but_last_of, all_but_last, interior, Point, Vertex, numbered, is_kept_at, Place, place_at, points_of, Guard, reduced_arcs, CountedByWeight, EachTo, last_after, HasEndsOf, IsThinned, weight, passing, interior_places, interior_weights, interior_count}
use Rattle.guarded_meaning.proofs.Kept.{points_numbered}
use Rattle.guarded_meaning.proofs.Lists.{passed_says}
use Rattle.guarded_meaning.proofs.Neighbours.{Rises}
use Rattle.guarded_meaning.proofs.NoCrossings.{all_numbered_rise}
use Rattle.guarded_meaning.proofs.Thinned.{remaining_thinned}
use Rattle.guarded_meaning.proofs.Weights.{kept_by_weight}

-- ---- what passes between the ends, where the ends pass

rises_last : (y z : Vertex) (zs : List Vertex) → Rises (y ∷ (z ∷ zs)) → y.index < (last_after z zs).index
rises_last y z [] h = h.0.0
rises_last y z (w ∷ zs) h = let k = rises_last z w zs h.1 in let l = h.0.0 in omega (arith, k, l)

module _ (q : Vertex → Bool) where
  longer : (y z : Vertex) (zs ws : List Vertex) → Rises (y ∷ (z ∷ zs)) → last_after y ws ≡ last_after z zs → all_but_last_of y ws ≡ y ∷ all_but_last ws
  longer y z zs [] h e = let k = rises_last y z zs h in let l = ap (λ (v : Vertex). v.index) e in absurd (omega (arith, k, l))
  longer y z zs (w ∷ ws) h e = refl

  inner : (x : Vertex) (ys : List Vertex) → Rises (x ∷ ys) → last_after x (filter q ys) ≡ last_after x ys → all_but_last (filter q ys) ≡ filter q (all_but_last ys)
  inner x [] h e = refl
  inner x (y ∷ []) h e = grind arith
  inner x (y ∷ (z ∷ zs)) h e = grind (arith, inner y (z ∷ zs) h.1, inner x (z ∷ zs) (h.0.1, h.1.1), longer y z zs (filter q (z ∷ zs)) h.1)

  -- a list that begins with another vertex than this one's own successors doesn't have its ends
  not_first : (v : Vertex) (ws us : List Vertex) → AllByRecursion (λ i. v.index < i) (map (λ w. w.index) ws) → ((u : Vertex) → In u us → In u ws) → HasEndsOf us (v ∷ ws) → ⊥
  not_first v ws [] h f e = e
  not_first v ws (u ∷ us) h f e =
      let k = each_of (λ w. v.index < w.index) ws u (all_of_map (λ i. v.index < i) (λ w. w.index) ws h) (f u (inl refl)) in
      let l = ap (λ (w : Vertex). w.index) e.0 in
      omega (arith, k, l)

  interior_passing : (vs : List Vertex) → Rises vs → HasEndsOf (filter q vs) vs → interior (filter q vs) ≡ filter q (interior vs)
  interior_passing [] h e = refl
  interior_passing (v ∷ ws) h e = on (q v) e
    where
      on : (b : Bool) → HasEndsOf (if b then v ∷ filter q ws else filter q ws) (v ∷ ws) → interior (if b then v ∷ filter q ws else filter q ws) ≡ filter q (all_but_last ws)
      on true k = inner v ws h k.1
      on false k = absurd (not_first v ws (filter q ws) h.0 (λ u m. (passed_says q u ws m).0) k)

-- ---- counts

all_but_last_map : {X Y : Type 0} (f : X → Y) (xs : List X) → all_but_last (map f xs) ≡ map f (all_but_last xs)
all_but_last_map f [] = refl
all_but_last_map f (x ∷ []) = refl
all_but_last_map f (x ∷ (y ∷ xs)) = ap (λ l. f x ∷ l) (all_but_last_map f (y ∷ xs))

interior_map : {X Y : Type 0} (f : X → Y) (xs : List X) → interior (map f xs) ≡ map f (interior xs)
interior_map f [] = refl
interior_map f (x ∷ xs) = all_but_last_map f xs

module _ (t : ℕ) (weigh : Place → Option ℕ) where
  abbrev kept : Place → Bool
  kept x = is_kept_at t (weigh x)

  count_in : (k : ℕ) (vs : List Vertex) → length (filter (λ v. kept (place_at k v)) vs) ≡ count_by (is_kept_at t) (map weigh (map (place_at k) vs))
  count_in k [] = refl
  count_in k (v ∷ vs) = on (kept (place_at k v)) (count_in k vs) ∙ sym (sum_by-cons (λ w. cond (is_kept_at t w) 1 0) (weigh (place_at k v)) (map weigh (map (place_at k) vs)))
    where
      on : (b : Bool) → length (filter (λ v. kept (place_at k v)) vs) ≡ count_by (is_kept_at t) (map weigh (map (place_at k) vs)) →
          length (if b then v ∷ filter (λ v. kept (place_at k v)) vs else filter (λ v. kept (place_at k v)) vs) ≡ cond b 1 0 + count_by (is_kept_at t) (map weigh (map (place_at k) vs))
      on true h = omega (arith, h)
      on false h = omega (arith, h)

  count_all : (k : ℕ) (arcs : List (List Vertex)) → AllByRecursion Rises arcs → EachTo IsThinned (passing kept k arcs) arcs →
      count_by (is_kept_at t) (map weigh (interior_places k arcs)) ≡ interior_count (points_of (passing kept k arcs))
  count_all k [] h e = refl
  count_all k (vs ∷ arcs) h e =
      let own : Vertex → Bool = λ v. kept (place_at k v) in
      let one : length (interior (map (λ v. v.point) (filter own vs))) ≡ count_by (is_kept_at t) (map weigh (map (place_at k) (interior vs))) =
      ap length (interior_map (λ v. v.point) (filter own vs)) ∙ length-map (interior (filter own vs)) (λ v. v.point) ∙ ap length (interior_passing own vs h.0 e.0.1) ∙ count_in k (interior vs) in
      ap (count_by (is_kept_at t)) (map-append weigh (map (place_at k) (interior vs)) (interior_places (suc k) arcs))
      ∙ sum_by-append (λ w. cond (is_kept_at t w) 1 0) (map weigh (map (place_at k) (interior vs))) (map weigh (interior_places (suc k) arcs))
      ∙ ap (λ n. n + count_by (is_kept_at t) (map weigh (interior_places (suc k) arcs))) (sym one)
      ∙ ap (λ n. length (interior (map (λ v. v.point) (filter own vs))) + n) (count_all (suc k) arcs h.1 e.1)
      ∙ sym (length-append (interior (map (λ v. v.point) (filter own vs))) (joined (map interior (points_of (passing kept (suc k) arcs)))))

pub counted_by_weight : CountedByWeight
unfolding reduced_arcs
counted_by_weight guard t arcs =
    let same = kept_by_weight guard t arcs in
    count_all t (weight guard arcs) 0 (map (numbered 0) arcs) (all_numbered_rise arcs) (subst (λ more. EachTo IsThinned more (map (numbered 0) arcs)) same (remaining_thinned guard t arcs))
    ∙ ap (λ more. interior_count (points_of more)) (sym same)

-- there is a weight for each position between the ends
places_count : (k : ℕ) (arcs : List (List Vertex)) → length (interior_places k arcs) ≡ interior_count (points_of arcs)
places_count k [] = refl
places_count k (vs ∷ arcs) =
    length-append (map (place_at k) (interior vs)) (interior_places (suc k) arcs)
    ∙ ap (λ n. n + length (interior_places (suc k) arcs)) (length-map (interior vs) (place_at k) ∙ sym (ap length (interior_map (λ v. v.point) vs) ∙ length-map (interior vs) (λ v. v.point)))
    ∙ ap (λ n. length (interior (map (λ v. v.point) vs)) + n) (places_count (suc k) arcs)
    ∙ sym (length-append (interior (map (λ v. v.point) vs)) (joined (map interior (points_of arcs))))

pub weights_count : (guard : Guard) (arcs : List (List Point)) → length (interior_weights guard arcs) ≡ interior_count arcs
weights_count guard arcs = length-map (interior_places 0 (map (numbered 0) arcs)) (weight guard arcs) ∙ places_count 0 (map (numbered 0) arcs) ∙ ap interior_count (points_numbered arcs)
