-- The weights of the positions that were removed, and what is left of the others.
use Rattle.std.proofs.Common.{◌≡◌, ◌≢◌, ℕ, zero, suc, ◌+◌, ◌-◌, ◌<◌, ◌≤◌, max, true, false, cond, not, eqb, leb, List, [], ◌∷◌, Some, None, length, map, get_or, set, refl, ap, sym, ◌∙◌, subst, arith, ◌⊎◌, inl, inr, ◌*◌}
use Rattle.std.specs.Prelude.{replicate, ℤ, ◌-ℤ◌, ◌*ℤ◌, unsigned_abs}
use Rattle.std.specs.List.{All, filter, range_with_len, AllByRecursion, count_by}
use Rattle.std.proofs.lemmas.Bool.{le-leb, lt-leb, cases_lt}
use Rattle.std.proofs.lemmas.Bool.Decides.{nat_tests}
use Rattle.std.proofs.lemmas.Int.{ints}
use Rattle.std.proofs.lemmas.List.{ext_get_or, get_or_default, get_or_past, get_or-set_same, get_or-set_other, length-set, length-replicate, get_or-replicate}
use Rattle.std.proofs.lemmas.List.Sums.{sum_by-set, sum_by-le-sum_by}
use Rattle.std.proofs.lemmas.List.FromFn.{get_or-map-range_with_len, length-map-range_with_len}
use Rattle.geometry.specs.Areas.{twice_area, cross}
use Rattle.geometry.specs.Lists.{In}
use Rattle.geometry.specs.Points.{Point, IsPosition}
use Rattle.geometry.specs.Units.{position_limit, area_limit}
use Rattle.elimination_meaning.specs.Elimination.{Vertex, Corner, corners, least, without}
use Rattle.elimination_meaning.specs.Weights.{weight_from, weight}
use Rattle.elimination_meaning.proofs.Weights.{weigh_on}
use Rattle.effective_area.specs.declared.weight.Weight.{Weight}
use Rattle.effective_area.specs.declared.weight.Weight.TheVariants.{End, Area}
use Rattle.effective_area.specs.Capped.{is_within}
use Rattle.effective_area.specs.Vertices.{origin, vertices}
use Rattle.effective_area.specs.Weights.{reported, weights_of}
use Rattle.effective_area.proofs.ChainLaws.{same_or_not, keep_step, drop_step}
use Rattle.effective_area.proofs.Products.{product_bound, apart_fits}
use Rattle.effective_area.proofs.Scan.{without_vertices, all_vertices}
use Rattle.effective_area.proofs.LinkedCorners.{in_or_not, in_filter}
use Rattle.effective_area.proofs.Turns.{range_in}

-- ---- one step

same_test : (i : ℕ) → eqb i i ≡ true
same_test i = grind (arith, nat_tests)

other_test : (k i : ℕ) → k ≢ i → eqb k i ≡ false
other_test k i h = grind (arith, nat_tests)

weigh_here : (n level : ℕ) (vs : List Vertex) (c : Corner) → least (corners vs) ≡ Some c → weight_from (suc n) level vs c.index ≡ Some (max level c.area)
weigh_here n level vs c e = grind (arith, same_test)

weigh_other : (n level : ℕ) (vs : List Vertex) (c : Corner) (i : ℕ) → least (corners vs) ≡ Some c → c.index ≢ i
    → weight_from (suc n) level vs i ≡ weight_from n (max level c.area) (without c.index vs) i
weigh_other n level vs c i e h = grind (arith, other_test)

weigh_none : (n level : ℕ) (vs : List Vertex) (i : ℕ) → least (corners vs) ≡ None → weight_from n level vs i ≡ None
weigh_none zero level vs i e = refl
weigh_none (suc n) level vs i e = ap (weigh_on n level vs i) e

-- ---- indexes that are left out

from_filter : (k i : ℕ) (vs : List ℕ) → In i (filter (λ v. not (eqb v k)) vs) → In i vs × (i ≢ k)
from_filter k i [] h = elim h [ ]
from_filter k i (v ∷ vs) h = grind (arith, same_or_not, drop_step, keep_step, from_filter k i vs)

-- ---- the weights so far

-- it is the weight of a position between the ends, and not over the level
pub record IsLow (level : ℕ) (w : Weight) : Type 0 where
  pub area : ℕ
  pub known : w ≡ Area area
  pub low : area ≤ level

-- the weight that is set is counted
count_more : (level area i : ℕ) (ws : List Weight) → i < length ws → get_or ws i End ≡ End → count_by (is_within level) ws + 1 ≤ count_by (is_within (max level area)) (set ws i (Area (max level area)))
count_more level area i ws h e =
    let before : ◌≡◌ {A = ℕ} (cond (is_within (max level area) (get_or ws i End)) 1 0) 0 = ap (λ w. cond (is_within (max level area) w) 1 0) e in
    let here : ◌≡◌ {A = ℕ} (cond (leb (max level area) (max level area)) 1 0) 1 = ap (λ b. cond b 1 0) (le-leb (max level area) (max level area) (omega arith)) in
    let more = sum_by-le-sum_by (λ w. cond (is_within level w) 1 0) (λ w. cond (is_within (max level area) w) 1 0) ws each in
    omega (arith, before, here, more, sum_by-set (λ w. cond (is_within (max level area) w) 1 0) ws i (Area (max level area)) End h)
  where
    test : (a : ℕ) → (level < a) ⊎ (a ≤ level) → cond (leb a level) 1 0 ≤ cond (leb a (max level area)) 1 0
    test a (inl l) = let e : ◌≡◌ {A = ℕ} (cond (leb a level) 1 0) 0 = ap (λ b. cond b 1 0) (lt-leb a level l) in omega (arith, e)
    test a (inr l) =
        let f : ◌≡◌ {A = ℕ} (cond (leb a level) 1 0) 1 = ap (λ b. cond b 1 0) (le-leb a level l) in
        let g : ◌≡◌ {A = ℕ} (cond (leb a (max level area)) 1 0) 1 = ap (λ b. cond b 1 0) (le-leb a (max level area) (omega (arith, l))) in
        omega (arith, f, g)

    each : (w : Weight) → cond (is_within level w) 1 0 ≤ cond (is_within (max level area) w) 1 0
    each End = omega arith
    each (Area a) = test a (cases_lt level a)

-- those that are present have none yet, and theirs is still to come; each of the others has its own
pub record AreWeighed (ps : List Point) (level left : ℕ) (vs : List ℕ) (ws : List Weight) : Type 0 where
  pub size : length ws ≡ length ps
  pub present : (i : ℕ) → i < length ps → In i (0 ∷ vs) → (get_or ws i End ≡ End) × (weight ps i ≡ weight_from (left + 2) level (vertices ps (0 ∷ vs)) i)
  pub gone : (i : ℕ) → i < length ps → (In i (0 ∷ vs) → ⊥) → get_or ws i End ≡ reported (weight ps i)
  pub low : (i : ℕ) → i < length ps → (In i (0 ∷ vs) → ⊥) → IsLow level (get_or ws i End)
  pub many : length ps ≤ count_by (is_within level) ws + left + 2

-- nothing is removed yet
pub none_weighed : (ps : List Point) (ws : List Weight) → 2 ≤ length ps → ws ≡ replicate (length ps) End → AreWeighed ps 0 (length ps - 2) (range_with_len 1 (length ps - 1)) ws
none_weighed ps ws two e = record {
  size = ap length e ∙ length-replicate (length ps) End;
  present = λ i h k. (
    ap (λ l. get_or l i End) e ∙ get_or-replicate (length ps) i End End h,
    sym (ap (λ n. weight_from n 0 (vertices ps (0 ∷ range_with_len 1 (length ps - 1))) i) fuel ∙ ap (λ n. weight_from (length ps) 0 (vertices ps (range_with_len 0 n)) i) more ∙ ap (λ vs. weight_from (length ps) 0 vs i) (all_vertices ps)),
  );
  gone = λ i h k. absurd (k (all_in i h));
  low = λ i h k. absurd (k (all_in i h));
  many = omega (arith, two);
}
  where
    fuel : length ps - 2 + 2 ≡ length ps
    fuel = omega arith

    more : suc (length ps - 1) ≡ length ps
    more = omega arith

    all_in : (i : ℕ) → i < length ps → In i (0 ∷ range_with_len 1 (length ps - 1))
    all_in zero h = inl refl
    all_in (suc i) h = inr (range_in 0 (length ps - 1) (suc i) (omega arith) (omega arith))

-- the first corner is removed, and its weight set
module _ (ps : List Point) (level left : ℕ) (vs : List ℕ) (ws : List Weight) (c : Corner) (w : AreWeighed ps level left vs ws)
    (some : 0 < left) (first : least (corners (vertices ps (0 ∷ vs))) ≡ Some c) (there : In c.index vs) (later : 0 < c.index) (within : c.index < length ps) where
  abbrev rest_of : List ℕ
  rest_of = filter (λ v. not (eqb v c.index)) vs

  abbrev new : List Weight
  new = set ws c.index (Area (max level c.area))

  fuel : left + 2 ≡ suc (left - 1 + 2)
  fuel = omega arith

  vertices_left : without c.index (vertices ps (0 ∷ vs)) ≡ vertices ps (0 ∷ rest_of)
  vertices_left = without_vertices ps c.index (0 ∷ vs) ∙ ap (vertices ps) (keep_step c.index 0 vs (λ q. absurd (omega (arith, q))))

  was_there : (i : ℕ) → In i (0 ∷ rest_of) → In i (0 ∷ vs) × (i ≢ c.index)
  was_there i (inl e) = (inl e, λ q. absurd (omega (arith, q, e)))
  was_there i (inr m) = let r = from_filter c.index i vs m in (inr r.0, r.1)

  still_there : (i : ℕ) → In i (0 ∷ vs) → i ≢ c.index → In i (0 ∷ rest_of)
  still_there i (inl e) n = inl e
  still_there i (inr m) n = inr (in_filter c.index i vs m n)

  present' : (i : ℕ) → i < length ps → In i (0 ∷ rest_of) → (get_or new i End ≡ End) × (weight ps i ≡ weight_from (left - 1 + 2) (max level c.area) (vertices ps (0 ∷ rest_of)) i)
  present' i h m =
      let was = was_there i m in
      let old = w.present i h was.0 in (
        get_or-set_other ws c.index i (Area (max level c.area)) End was.1 ∙ old.0,
        old.1 ∙ ap (λ n. weight_from n level (vertices ps (0 ∷ vs)) i) fuel ∙ weigh_other (left - 1 + 2) level (vertices ps (0 ∷ vs)) c i first (λ q. was.1 (sym q))
            ∙ ap (λ l. weight_from (left - 1 + 2) (max level c.area) l i) vertices_left,
      )

  gone' : (i : ℕ) → i < length ps → (In i (0 ∷ rest_of) → ⊥) → get_or new i End ≡ reported (weight ps i)
  gone' i h m = on (same_or_not i c.index)
    where
      here : get_or new c.index End ≡ reported (weight ps c.index)
      here = get_or-set_same ws c.index (Area (max level c.area)) End (omega (arith, w.size, within))
          ∙ ap reported (sym ((w.present c.index within (inr there)).1 ∙ ap (λ n. weight_from n level (vertices ps (0 ∷ vs)) c.index) fuel ∙ weigh_here (left - 1 + 2) level (vertices ps (0 ∷ vs)) c first))

      on : (i ≡ c.index) ⊎ (i ≢ c.index) → get_or new i End ≡ reported (weight ps i)
      on (inl e) = subst (λ (j : ℕ). get_or new j End ≡ reported (weight ps j)) (sym e) here
      on (inr n) = get_or-set_other ws c.index i (Area (max level c.area)) End n ∙ w.gone i h (λ k. m (still_there i k n))

  low' : (i : ℕ) → i < length ps → (In i (0 ∷ rest_of) → ⊥) → IsLow (max level c.area) (get_or new i End)
  low' i h m = on (same_or_not i c.index)
    where
      on : (i ≡ c.index) ⊎ (i ≢ c.index) → IsLow (max level c.area) (get_or new i End)
      on (inl e) = record {
        area = max level c.area;
        known = ap (λ j. get_or new j End) e ∙ get_or-set_same ws c.index (Area (max level c.area)) End (omega (arith, w.size, within));
        low = omega arith;
      }
      on (inr n) =
          let old = w.low i h (λ k. m (still_there i k n)) in
          record { area = old.area; known = get_or-set_other ws c.index i (Area (max level c.area)) End n ∙ old.known; low = omega (arith, old.low) }

  many' : length ps ≤ count_by (is_within (max level c.area)) new + (left - 1) + 2
  many' = omega (arith, w.many, some, count_more level c.area c.index ws (omega (arith, w.size, within)) (w.present c.index within (inr there)).0)

  pub weighed_on : AreWeighed ps (max level c.area) (left - 1) rest_of new
  weighed_on = record { size = length-set ws c.index (Area (max level c.area)) ∙ w.size; present = present'; gone = gone'; low = low'; many = many' }

-- no corner is left
pub all_weighed : (ps : List Point) (level left : ℕ) (vs : List ℕ) (ws : List Weight) → AreWeighed ps level left vs ws → least (corners (vertices ps (0 ∷ vs))) ≡ None → ws ≡ weights_of ps
unfolding weights_of
all_weighed ps level left vs ws w e =
    ext_get_or End ws (map (λ i. reported (weight ps i)) (range_with_len 0 (length ps))) (w.size ∙ sym (length-map-range_with_len (λ i. reported (weight ps i)) 0 (length ps)))
    (λ i h. each i (omega (arith, h, w.size)) (in_or_not i (0 ∷ vs)) ∙ sym (get_or-map-range_with_len (λ i. reported (weight ps i)) 0 (length ps) i i End (omega (arith, h, w.size)) (omega arith)))
  where
    each : (i : ℕ) → i < length ps → In i (0 ∷ vs) ⊎ (In i (0 ∷ vs) → ⊥) → get_or ws i End ≡ reported (weight ps i)
    each i h (inl k) = let p = w.present i h k in p.0 ∙ ap reported (sym (p.1 ∙ weigh_none (left + 2) level (vertices ps (0 ∷ vs)) i e))
    each i h (inr n) = w.gone i h n

-- ---- fewer than two positions

pub short_weights : (ps : List Point) (ws : List Weight) → length ps < 2 → ws ≡ replicate (length ps) End → ws ≡ weights_of ps
unfolding weights_of
short_weights [] ws h e = e
short_weights (p ∷ []) ws h e = e
short_weights (p ∷ (q ∷ ps)) ws h e = absurd (omega arith)

-- ---- no area is as great as the limit

apart : (a b : ℤ) → unsigned_abs a ≤ position_limit → unsigned_abs b ≤ position_limit → unsigned_abs (a -ℤ b) ≤ 2 * position_limit
apart a b p q = omega (arith, ints)

pub area_bound : (a b c : Point) → IsPosition a → IsPosition b → IsPosition c → twice_area a b c < area_limit
area_bound a b c p q r = unfold twice_area cross in
    apart_fits ((b.x -ℤ a.x) *ℤ (c.y -ℤ a.y)) ((c.x -ℤ a.x) *ℤ (b.y -ℤ a.y))
    (product_bound (b.x -ℤ a.x) (c.y -ℤ a.y) (apart b.x a.x q.0 p.0) (apart c.y a.y r.1 p.1))
    (product_bound (c.x -ℤ a.x) (b.y -ℤ a.y) (apart c.x a.x r.0 p.0) (apart b.y a.y q.1 p.1))

is_position : (ps : List Point) (i : ℕ) → All IsPosition ps → IsPosition (get_or ps i origin)
is_position ps i all = grind (arith, get_or_past)

-- one more is within the limit
pub more_within : (ps : List Point) (i : ℕ) (p : Point) → ((k : ℕ) (d : Point) → k < i → k < length ps → IsPosition (get_or ps k d)) → p ≡ get_or ps i p → IsPosition p
    → (k : ℕ) (d : Point) → k < i + 1 → k < length ps → IsPosition (get_or ps k d)
more_within ps i p all is h k d l m = on (same_or_not k i)
  where
    on : (k ≡ i) ⊎ (k ≢ i) → IsPosition (get_or ps k d)
    on (inl e) = subst IsPosition (is ∙ ap (λ j. get_or ps j p) (sym e) ∙ get_or_default ps k p d m) h
    on (inr n) = all k d (omega arith) m

-- where each corner is over the limit, there is none
pub none_over : (ps : List Point) (vs : List ℕ) → All IsPosition ps → AllByRecursion (λ c. area_limit ≤ c.area) (corners (vertices ps (0 ∷ vs))) → least (corners (vertices ps (0 ∷ vs))) ≡ None
none_over ps [] all h = refl
none_over ps (v ∷ []) all h = refl
none_over ps (v ∷ (w ∷ ws)) all h = grind (arith, area_bound, is_position)
