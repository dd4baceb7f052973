-- The weights that are found when positions are no longer removed.
use Rattle.std.proofs.Common.{◌≡◌, ℕ, suc, ◌+◌, ◌-◌, ◌<◌, ◌≤◌, min, cond, List, [], ◌∷◌, ◌++◌, None, length, map, take, drop, get_or, refl, ap, sym, ◌∙◌, subst, arith, ◌⊎◌, inl, inr}
use Rattle.std.specs.List.{All, count_by, sum_by}
use Rattle.std.proofs.Math.Seq.{take-append_seam}
use Rattle.std.proofs.lemmas.Bool.{cases_lt}
use Rattle.std.proofs.lemmas.List.{ext_get_or, length-map}
use Rattle.std.proofs.lemmas.List.Sums.{count_by-le-length, sum_by-cons}
use Rattle.std.proofs.lemmas.List.FromFn.{get_or-map-range_with_len, length-map-range_with_len}
use Rattle.geometry.specs.Lists.{In}
use Rattle.geometry.specs.Points.{Point, IsPosition}
use Rattle.elimination_meaning.specs.Elimination.{corners, least}
use Rattle.elimination_meaning.specs.Weights.{weight}
use Rattle.effective_area.specs.Capped.{AreFilled, IsCapped, IsFoundTo, capped_at, is_within, or_area}
use Rattle.effective_area.specs.Chains.{last_of}
use Rattle.effective_area.specs.Links.{IsLinked}
use Rattle.effective_area.specs.Vertices.{vertices}
use Rattle.effective_area.specs.Weights.{reported, weights_of}
use Rattle.effective_area.specs.declared.links.Link.{Link}
use Rattle.effective_area.specs.declared.weight.Weight.{Weight}
use Rattle.effective_area.specs.declared.weight.Weight.TheVariants.{End, Area}
use Rattle.effective_area.proofs.CappedShares.{get_or_capped}
use Rattle.effective_area.proofs.EndWeights.{HasWeight, ends_without, not_lower, weight_between}
use Rattle.effective_area.proofs.LinkedCorners.{in_or_not}
use Rattle.effective_area.proofs.Weighed.{AreWeighed, all_weighed}

-- ---- the weights of a line

pub weights_length : (ps : List Point) → length (weights_of ps) ≡ length ps
unfolding weights_of
weights_length ps = length-map-range_with_len (λ i. reported (weight ps i)) 0 (length ps)

weights_at : (ps : List Point) (i : ℕ) → i < length ps → get_or (weights_of ps) i End ≡ reported (weight ps i)
unfolding weights_of
weights_at ps i h = get_or-map-range_with_len (λ j. reported (weight ps j)) 0 (length ps) i i End h (omega arith)

-- ---- what is known of some elements

known_fewer : (f : Weight → ℕ) → f End ≡ 0 → (xs ys : List Weight) → length xs ≡ length ys
    → ((i : ℕ) → i < length xs → (get_or xs i End ≡ End) ⊎ (get_or xs i End ≡ get_or ys i End)) → sum_by f xs ≤ sum_by f ys
known_fewer f e [] ys h k = omega arith
known_fewer f e (x ∷ xs) [] h k = absurd (omega arith)
known_fewer f e (x ∷ xs) (y ∷ ys) h k = omega (arith, sum_by-cons f x xs, sum_by-cons f y ys, on (k 0 (omega arith)), known_fewer f e xs ys (omega arith) (λ i l. k (suc i) (omega arith)))
  where
    on : (x ≡ End) ⊎ (x ≡ y) → f x ≤ f y
    on (inl m) = omega (arith, ap f m, e)
    on (inr m) = omega (arith, ap f m)

last_present : (u : ℕ) (vs : List ℕ) → In (last_of u vs) (u ∷ vs)
last_present u [] = inl refl
last_present u (v ∷ vs) = inr (last_present v vs)

capped_low : (level area : ℕ) → area ≤ level → Area area ≡ Area (min level area)
capped_low level area h = let e : area ≡ min level area = omega arith in ap Area e

capped_high : (level area : ℕ) → level ≤ area → Area level ≡ Area (min level area)
capped_high level area h = let e : level ≡ min level area = omega arith in ap Area e

-- ---- when the loop ends

module _ (ps : List Point) (links : List Link) (level left : ℕ) (vs : List ℕ) (ws : List Weight) (two : 2 ≤ length ps) (within : All IsPosition ps)
    (linked : IsLinked links vs) (size : length links ≡ length ps) (w : AreWeighed ps level left vs ws) where
  between_present : (i : ℕ) → i < length ps → In i (0 ∷ vs) → HasWeight ps i → or_area level (get_or ws i End) ≡ capped_at level (get_or (weights_of ps) i End)
  between_present i h k has =
      let p = w.present i h k in
      ap (or_area level) p.0 ∙ capped_high level has.area (not_lower (left + 2) level (vertices ps (0 ∷ vs)) i has.area (sym p.1 ∙ has.is)) ∙ ap (capped_at level) (sym (weights_at ps i h ∙ ap reported has.is))

  between_gone : (i : ℕ) → i < length ps → (In i (0 ∷ vs) → ⊥) → or_area level (get_or ws i End) ≡ capped_at level (get_or (weights_of ps) i End)
  between_gone i h k =
      let l = w.low i h k in
      ap (or_area level) l.known ∙ capped_low level l.area l.low ∙ ap (capped_at level) (sym l.known ∙ w.gone i h k ∙ sym (weights_at ps i h))

  between : (i : ℕ) → 0 < i → i + 1 < length (weights_of ps) → or_area level (get_or ws i End) ≡ capped_at level (get_or (weights_of ps) i End)
  between i later inside = on (in_or_not i (0 ∷ vs))
    where
      h : i + 1 < length ps
      h = omega (arith, inside, weights_length ps)

      on : In i (0 ∷ vs) ⊎ (In i (0 ∷ vs) → ⊥) → or_area level (get_or ws i End) ≡ capped_at level (get_or (weights_of ps) i End)
      on (inl k) = between_present i (omega (arith, h)) k (weight_between ps i within later h)
      on (inr k) = between_gone i (omega (arith, h)) k

  ends_present : (i : ℕ) → (i ≡ 0) ⊎ (i + 1 ≡ length ps) → In i (0 ∷ vs)
  ends_present i (inl e) = inl e
  ends_present i (inr e) = let f : last_of 0 vs ≡ i = omega (arith, e, linked.last, size) in subst (λ (j : ℕ). In j (0 ∷ vs)) f (last_present 0 vs)

  ends_at : (i : ℕ) → (i ≡ 0) ⊎ (i + 1 ≡ length ps) → i < length ps → (get_or ws i End ≡ End) × (get_or (weights_of ps) i End ≡ End)
  ends_at i e h = ((w.present i h (ends_present i e)).0, weights_at ps i h ∙ ap reported (ends_without ps i two e))

  ends : (i : ℕ) → (i ≡ 0) ⊎ (i + 1 ≡ length (weights_of ps)) → (get_or ws i End ≡ End) × (get_or (weights_of ps) i End ≡ End)
  ends i (inl e) = ends_at i (inl e) (omega (arith, e, two))
  ends i (inr e) = let f : i + 1 ≡ length ps = e ∙ weights_length ps in ends_at i (inr f) (omega (arith, f))

  counted : count_by (is_within level) ws ≤ count_by (is_within level) (weights_of ps)
  counted = known_fewer (λ x. cond (is_within level x) 1 0) refl ws (weights_of ps) (w.size ∙ sym (weights_length ps)) (λ i h. on i (omega (arith, h, w.size)) (in_or_not i (0 ∷ vs)))
    where
      on : (i : ℕ) → i < length ps → In i (0 ∷ vs) ⊎ (In i (0 ∷ vs) → ⊥) → (get_or ws i End ≡ End) ⊎ (get_or ws i End ≡ get_or (weights_of ps) i End)
      on i h (inl k) = inl (w.present i h k).0
      on i h (inr k) = inr (w.gone i h k ∙ sym (weights_at ps i h))

  pub found : (most : ℕ) → (ws ≡ weights_of ps) ⊎ (most ≤ count_by (is_within level) ws) → IsFoundTo most level (weights_of ps) ws
  found most h = record { size = w.size ∙ sym (weights_length ps); between = between; ends = ends; enough = on h }
    where
      on : (ws ≡ weights_of ps) ⊎ (most ≤ count_by (is_within level) ws) → (ws ≡ weights_of ps) ⊎ (most ≤ count_by (is_within level) (weights_of ps))
      on (inl e) = inl e
      on (inr k) = inr (omega (arith, k, counted))

  -- none or so many are out
  pub stopped : (most : ℕ) → length vs ≡ left + 1 → left ≤ length ps - 2 - most → (ws ≡ weights_of ps) ⊎ (most ≤ count_by (is_within level) ws)
  stopped most many h = on (cases_lt 0 left)
    where
      alone : (us : List ℕ) → length us ≡ 1 → least (corners (vertices ps (0 ∷ us))) ≡ None
      alone [] e = absurd (omega arith)
      alone (u ∷ []) e = refl
      alone (u ∷ (v ∷ us)) e = absurd (omega arith)

      on : (0 < left) ⊎ (left ≤ 0) → (ws ≡ weights_of ps) ⊎ (most ≤ count_by (is_within level) ws)
      on (inl l) = inr (omega (arith, l, h, w.many))
      on (inr l) = inl (all_weighed ps level left vs ws w (alone vs (omega (arith, l, many))))

-- ---- what isn't found is filled up

module _ (most level : ℕ) (ws found new : List Weight) (f : IsFoundTo most level ws found) (n : AreFilled level found new) where
  end_or_not : (i : ℕ) → i < length ws → ((i ≡ 0) ⊎ (i + 1 ≡ length ws)) ⊎ ((0 < i) × (i + 1 < length ws))
  end_or_not i h = by (cases_lt 0 i) (cases_lt (i + 1) (length ws))
    where
      by : (0 < i) ⊎ (i ≤ 0) → (i + 1 < length ws) ⊎ (length ws ≤ i + 1) → ((i ≡ 0) ⊎ (i + 1 ≡ length ws)) ⊎ ((0 < i) × (i + 1 < length ws))
      by (inr l) m = inl (inl (omega arith))
      by (inl l) (inr m) = inl (inr (omega arith))
      by (inl l) (inl m) = inr (l, m)

  same_end : (i : ℕ) → (i ≡ 0) ⊎ (i + 1 ≡ length ws) → (i ≡ 0) ⊎ (i + 1 ≡ length found)
  same_end i (inl e) = inl e
  same_end i (inr e) = inr (e ∙ sym f.size)

  at_end : (i : ℕ) → (i ≡ 0) ⊎ (i + 1 ≡ length ws) → get_or new i End ≡ End
  at_end i e = n.ends i (same_end i e) ∙ (f.ends i e).0

  at_between : (i : ℕ) → 0 < i → i + 1 < length ws → get_or new i End ≡ capped_at level (get_or ws i End)
  at_between i l m = n.between i l (omega (arith, m, f.size)) ∙ f.between i l m

  each : (i : ℕ) → i < length ws → get_or new i End ≡ capped_at level (get_or ws i End)
  each i h = on (end_or_not i h)
    where
      on : ((i ≡ 0) ⊎ (i + 1 ≡ length ws)) ⊎ ((0 < i) × (i + 1 < length ws)) → get_or new i End ≡ capped_at level (get_or ws i End)
      on (inl e) = at_end i e ∙ ap (capped_at level) (sym (f.ends i e).1)
      on (inr b) = at_between i b.0 b.1

  -- a weight that would be filled up and is capped to the same isn't changed
  unchanged : (x : Weight) → or_area level x ≡ capped_at level x → capped_at level x ≡ x
  unchanged End e = refl
  unchanged (Area a) e = sym e

  each_same : found ≡ ws → (i : ℕ) → i < length ws → get_or new i End ≡ get_or ws i End
  each_same e i h = on (end_or_not i h)
    where
      on : ((i ≡ 0) ⊎ (i + 1 ≡ length ws)) ⊎ ((0 < i) × (i + 1 < length ws)) → get_or new i End ≡ get_or ws i End
      on (inl k) = at_end i k ∙ sym (f.ends i k).1
      on (inr b) = at_between i b.0 b.1 ∙ unchanged (get_or ws i End) (ap (λ l. or_area level (get_or l i End)) (sym e) ∙ f.between i b.0 b.1)

  long : length new ≡ length ws
  long = n.size ∙ f.size

  pub filled : IsCapped most ws new
  filled = on f.enough
    where
      on : (found ≡ ws) ⊎ (most ≤ count_by (is_within level) ws) → IsCapped most ws new
      on (inl e) = inl (ext_get_or End new ws long (λ i h. each_same e i (omega (arith, h, long))))
      on (inr k) = inr (record {
        level = level;
        capped = ext_get_or End new (map (capped_at level) ws) (long ∙ sym (length-map ws (capped_at level))) (λ i h. each i (omega (arith, h, long)) ∙ sym (get_or_capped level ws i));
        enough = k;
      })

-- what is written over a whole list is all of it
pub written_over : {A : Type 0} (n : ℕ) (xs ys : List A) → n ≡ length xs → take n (xs ++ drop (length xs) ys) ≡ xs
written_over n xs ys is = rw is (take-append_seam xs (drop (length xs) ys))

-- where there are fewer positions, all weights are reported
pub all_reported : (most : ℕ) (ps : List Point) (new : List Weight) → length ps < most → IsCapped most (weights_of ps) new → new ≡ weights_of ps
all_reported most ps new h (inl e) = e
all_reported most ps new h (inr s) = absurd (omega (arith, h, s.enough, count_by-le-length (is_within s.level) (weights_of ps), weights_length ps))
