-- One elimination, over links and a heap.
use Rattle.std.proofs.Common.{◌≡◌, ◌≢◌, ℕ, suc, zero, pred, ◌+◌, ◌-◌, ◌<◌, ◌≤◌, Bool, true, false, not, eqb, List, [], ◌∷◌, length, Option, Some, None, refl, ap, sym, ◌∙◌, subst, arith, ◌⊎◌, inl, inr, Result, Ok, Err, IfOk}
use Rattle.std.specs.List.{range_with_len, filter, Contains, AllByRecursion}
use Rattle.geometry.specs.Lists.{In}
use Rattle.geometry.specs.Points.{Point}
use Rattle.elimination_meaning.specs.Elimination.{Vertex, Corner, corner_at, corners, least, is_before, eliminate, numbered}
use Rattle.effective_area.specs.Vertices.{vertex_at, vertices}
use Rattle.std.proofs.lemmas.Bool.{cases_lt}
use Rattle.std.proofs.lemmas.List.FromFn.{length-range_with_len}
use Rattle.elimination_meaning.proofs.Steps.{eliminate_zero, least_holds}
use Rattle.elimination_meaning.specs.Elimination.{reduce}
use Rattle.effective_area.proofs.Scan.{step_some, step_none, step_over, without_vertices, all_vertices, settled}
use Rattle.effective_area.specs.declared.links.Link.{Link}
use Rattle.effective_area.specs.declared.entry.Entry.{Entry}
use Rattle.effective_area.specs.Chains.{Chain, last_of}
use Rattle.effective_area.specs.Links.{after_in, before_in, area_in, entry_at, cached, AreCached, IsCurrent, IsReady, IsSound, IsLinked, Covers, CachesArea, Unlinks, LeavesCurrent, IsState, IsRemoved, RemovesFirst, IsFirst, IsUnder, Fits, Pushed, PushedFirst, IsDue, HasCorners, entry_corner, entry_in}
use Rattle.effective_area.proofs.LinkLaws.{same_entry}
use Rattle.effective_area.proofs.ChainLaws.{same_or_not, keep_step, named, cut_out, least_is}
use Rattle.effective_area.proofs.LinkedCorners.{in_or_not, in_filter, last_filter, next_in, one_less, prev_in, in_last, no_further, prev_next, next_prev, in_present, all_present, in_length, over_later, under_first, earlier, NoneBefore, all_in, least_decides}

pub current_at : (ps : List Point) (links : List Link) (v : ℕ) → v < length links → IsCurrent links (entry_at ps (before_in links v) v (after_in links v))
current_at ps links v h = unfold entry_at in record { within = h; before = refl; after = refl }

sound_at : (t : ℕ) (ps : List Point) (b v a : ℕ) → b < v → v < a → a < length ps → (entry_at ps b v a).area < t → IsSound t ps (entry_at ps b v a)
sound_at t ps b v a h k l u = unfold entry_at in record { is = refl; before = h; after = k; within = l; under = u }

index_at : (ps : List Point) (b v a : ℕ) → (entry_at ps b v a).index ≡ v
index_at ps b v a = unfold entry_at in refl

corner_of_entry : (ps : List Point) (b v a : ℕ) → entry_corner ps (entry_at ps b v a) ≡ corner_at (vertex_at ps b) (vertex_at ps v) (vertex_at ps a)
corner_of_entry ps b v a = unfold entry_at in refl

module _ (t : ℕ) (ps : List Point) (links : List Link) (vs : List ℕ) (linked : IsLinked links vs) (notes : AreCached t ps links) where
  abbrev corner_of : ℕ → Corner
  corner_of v = corner_at (vertex_at ps (before_in links v)) (vertex_at ps v) (vertex_at ps (after_in links v))

  -- the cached corner is the corner
  cached_is : (v : ℕ) → 0 < v → In v vs → v < last_of 0 vs → cached ps links v ≡ corner_of v
  cached_is v p k l = unfold cached in grind (arith, named, corner_of_entry)

  -- an end never goes before a corner under the threshold
  end_later : (u v : ℕ) → (u ≡ 0) ⊎ (u + 1 ≡ length links) → (cached ps links v).area < t → is_before (cached ps links u) (cached ps links v) ≡ false
  end_later u v k h = unfold cached in over_later (cached ps links u) (cached ps links v) (omega (arith, h, notes.ends u k))

  neighbour_later : (u v : ℕ) → 0 < v → In v vs → v < last_of 0 vs → (corner_of v).area < t → NoneBefore (corner_of v) (corners (vertices ps (0 ∷ vs))) → (u ≡ 0) ⊎ In u vs →
      is_before (cached ps links u) (cached ps links v) ≡ false
  neighbour_later u v p k l h none m = grind (arith, cached_is, named, all_in, in_present, in_last, end_later)

  -- the first corner of all is due, if it is under the threshold
  first_is_due : (v : ℕ) → 0 < v → In v vs → v < last_of 0 vs → (corner_of v).area < t → NoneBefore (corner_of v) (corners (vertices ps (0 ∷ vs))) → IsDue t ps links v
  first_is_due v p k l h none = record {
    later = p;
    inside = omega (arith, l, linked.last);
    under = subst (λ (c : Corner). c.area < t) (sym (corner_of_entry ps (before_in links v) v (after_in links v))) h;
    before = neighbour_later (before_in links v) v p k l h none (prev_in (after_in links) (before_in links) 0 vs v linked.chain k);
    after = neighbour_later (after_in links v) v p k l h none (inr (next_in (after_in links) (before_in links) 0 vs v linked.chain k l).0);
  }

  -- what is present can be compared
  pub ready_at : length links ≡ length ps → (v : ℕ) → (v ≡ 0) ⊎ In v vs → IsReady ps links v
  ready_at size v (inl e) = record { within = omega (arith, e, linked.last); fits = λ p _. absurd (omega (arith, p, e)); cached = λ p _. absurd (omega (arith, p, e)) }
  ready_at size v (inr k) =
      let n = named (after_in links) (before_in links) 0 vs v linked.chain k in
      let a = in_last (after_in links) (before_in links) 0 vs v linked.chain k in
      record {
        within = omega (arith, a, linked.last);
        fits = λ p q. let m = next_in (after_in links) (before_in links) 0 vs v linked.chain k (omega (arith, q, linked.last)) in record { before = n.1; after = m.1; within = omega (arith, m.2, linked.last, size) };
        cached = λ p q. notes.between v p q (λ x. absurd (omega (arith, x, n.1)));
      }

-- the neighbours of what is present are present
pub ahead_in : (links : List Link) (vs : List ℕ) (b f : ℕ) → IsLinked links vs → (b ≡ 0) ⊎ In b vs → (b ≡ 0 → f ≡ b) → (0 < b → f ≡ before_in links b) → (f ≡ 0) ⊎ In f vs
ahead_in links vs b f h (inl e) z n = inl (z e ∙ e)
ahead_in links vs b f h (inr k) z n = grind (arith, named, prev_in)

pub after_is_in : (links : List Link) (vs : List ℕ) (a l : ℕ) → IsLinked links vs → In a vs → (a + 1 ≡ length links → l ≡ a) → (a + 1 < length links → l ≡ after_in links a) → In l vs
after_is_in links vs a l h k z n = grind (arith, next_in, in_last)

-- two areas are computed again
pub record Renews (ps : List Point) (old new : List Link) (b a : ℕ) : Type 0 where
  pub at : (v : ℕ) → (v ≡ b) ⊎ (v ≡ a) → 0 < v → v + 1 < length new → area_in new v ≡ (entry_in ps new v).area
  pub ends : (v : ℕ) → (v ≡ 0) ⊎ (v + 1 ≡ length new) → area_in new v ≡ area_in old v
  pub others : (v : ℕ) → v ≢ b → v ≢ a → area_in new v ≡ area_in old v

pub renews : (ps : List Point) (links one two new : List Link) (b a : ℕ) → b < a → ((v : ℕ) → area_in one v ≡ area_in links v) → CachesArea ps one two b → CachesArea ps two new a → Renews ps links new b a
renews ps links one two new b a lt same nb na = grind (arith, same_or_not, same_entry)

pub unlinks_on : (ps : List Point) (old mid new : List Link) (b i a v : ℕ) → Unlinks old mid b i a → CachesArea ps mid new v → Unlinks old new b i a
unlinks_on ps old mid new b i a v u n = grind arith

module _ (t : ℕ) (ps : List Point) (links links' : List Link) (items mid items' : List Entry) (left : ℕ) (vs : List ℕ) (e : Entry)
    (s : IsState t ps links items left vs)
    (l : LeavesCurrent ps links items (Some e) mid)
    (cur : IsCurrent links e) where
  pub so : IsSound t ps e
  so = s.sound e (l.member e refl)

  pub in_vs : In e.index vs
  in_vs = grind (arith, in_or_not)

  inside : e.index < last_of 0 vs
  inside = omega (arith, s.linked.last, s.size, so.after, so.within)

  at_entry : entry_corner ps e ≡ corner_of t ps links vs s.linked s.cached e.index
  at_entry = grind (arith, corner_of_entry)

  -- the first corner of all doesn't go before the entry: it is due, or it isn't under the threshold
  not_before : (v : ℕ) → 0 < v → In v vs → v < last_of 0 vs → NoneBefore (corner_of t ps links vs s.linked s.cached v) (corners (vertices ps (0 ∷ vs))) →
      is_before (corner_of t ps links vs s.linked s.cached v) (entry_corner ps e) ≡ false
  not_before v p k m none = on (cases_lt (corner_of t ps links vs s.linked s.cached v).area t)
    where
      on : ((corner_of t ps links vs s.linked s.cached v).area < t) ⊎ (t ≤ (corner_of t ps links vs s.linked s.cached v).area) → is_before (corner_of t ps links vs s.linked s.cached v) (entry_corner ps e) ≡ false
      on (inl u) =
          let n = named (after_in links) (before_in links) 0 vs v s.linked.chain k in
          let c = s.covers v (λ q. absurd (omega (arith, q, n.1))) (first_is_due t ps links vs s.linked s.cached v p k m u none) in
          subst (λ x. is_before x (entry_corner ps e) ≡ false) (corner_of_entry ps (before_in links v) v (after_in links v))
          (l.first e (entry_in ps links v) refl c (current_at ps links v (omega (arith, s.linked.last, m))))
      on (inr o) = over_later (corner_of t ps links vs s.linked s.cached v) (entry_corner ps e) (omega (arith, o, so.under))

  -- the entry is the first corner of all
  pub is_least : least (corners (vertices ps (0 ∷ vs))) ≡ Some (entry_corner ps e)
  is_least = least_is (entry_corner ps e) (corners (vertices ps (0 ∷ vs)))
      (subst (λ x. In x (corners (vertices ps (0 ∷ vs)))) (sym at_entry) (in_present (after_in links) (before_in links) ps vs e.index s.linked.chain in_vs inside))
      (least_decides (λ d. is_before d (entry_corner ps e) ≡ false) (λ d. is_before d (entry_corner ps e) ≡ false) (corners (vertices ps (0 ∷ vs)))
      (all_present (after_in links) (before_in links) (λ d. NoneBefore d (corners (vertices ps (0 ∷ vs))) → is_before d (entry_corner ps e) ≡ false) ps vs s.linked.chain not_before)
      (λ d x h n. earlier.chain x d (entry_corner ps e) n h))

  module _ (un : Unlinks links links' e.before e.index e.after) where
    abbrev pub rest_of : List ℕ
    rest_of = filter (λ v. not (eqb v e.index)) vs

    chain' : Chain (after_in links') (before_in links') 0 rest_of
    chain' = cut_out (after_in links) (before_in links) (after_in links') (before_in links') e.index e.after
        (ap (after_in links') cur.before ∙ un.bridge) (λ v n. un.others v (λ q. n (q ∙ sym cur.before))) (un.bridge_back ∙ sym cur.before)
        un.others_back cur.after so.after 0 vs s.linked.chain in_vs (λ q. absurd (omega (arith, q, inside)))

    last' : last_of 0 rest_of ≡ last_of 0 vs
    last' = last_filter e.index 0 vs (λ q. absurd (omega (arith, q, inside)))

    after_in_vs : In e.after vs
    after_in_vs = subst (λ x. In x vs) cur.after (next_in (after_in links) (before_in links) 0 vs e.index s.linked.chain in_vs inside).0

    gone' : (j : ℕ) → 0 < j → j < length links' → (In j rest_of → ⊥) → before_in links' j ≡ j
    gone' j p q n = on (same_or_not j e.index)
      where
        on : (j ≡ e.index) ⊎ (j ≢ e.index) → before_in links' j ≡ j
        on (inl k) = ap (before_in links') k ∙ un.out ∙ sym k
        on (inr m) = un.others_back j (λ k. n (in_filter e.index j vs (subst (λ x. In x vs) (sym k) after_in_vs) m)) m
            ∙ s.linked.gone j p (omega (arith, un.same)) (λ k. n (in_filter e.index j vs k m))

    linked_at : (v : ℕ) → 0 < v → (v ≡ e.before) ⊎ (v ≡ e.after) → In v rest_of
    linked_at v p (inl k) = in_filter e.index v vs
        (elim (prev_in (after_in links) (before_in links) 0 vs e.index s.linked.chain in_vs) [ inl x ↦ absurd (omega (arith, x, k, cur.before)) | inr x ↦ subst (λ y. In y vs) (cur.before ∙ sym k) x ])
        (λ x. absurd (omega (arith, x, k, so.before)))
    linked_at v p (inr k) = in_filter e.index v vs (subst (λ x. In x vs) (sym k) after_in_vs) (λ x. absurd (omega (arith, x, k, so.after)))

    -- the corners at the two neighbours
    pub fits : (v : ℕ) → 0 < v → v + 1 < length links' → (v ≡ e.before) ⊎ (v ≡ e.after) → (before_in links' v < v) × (v < after_in links' v) × (after_in links' v < length ps)
    fits v p q k =
        let i = linked_at v p k in
        let n = named (after_in links') (before_in links') 0 rest_of v chain' i in
        let m = next_in (after_in links') (before_in links') 0 rest_of v chain' i (omega (arith, last', s.linked.last, un.same)) in
        (n.1, m.1, omega (arith, m.2, last', s.linked.last, s.size))

    -- some may still be removed
    pub some_left : 0 < left
    some_left =
        let one = one_less (after_in links) (before_in links) 0 e.index vs s.linked.chain in_vs in
        let some = in_length e.after rest_of (in_filter e.index e.after vs after_in_vs (λ x. absurd (omega (arith, x, so.after)))) in
        omega (arith, one, some, s.many)

    pub linked_on : IsLinked links' rest_of
    linked_on = record { chain = chain'; last = omega (arith, last', s.linked.last, un.same); gone = gone' }

    -- its neighbours stay present
    pub before_stays : (e.before ≡ 0) ⊎ In e.before rest_of
    before_stays = on (cases_lt 0 e.before)
      where
        on : (0 < e.before) ⊎ (e.before ≤ 0) → (e.before ≡ 0) ⊎ In e.before rest_of
        on (inl p) = inr (linked_at e.before p (inl refl))
        on (inr p) = inl (omega (arith, p))

    pub after_stays : In e.after rest_of
    after_stays = linked_at e.after (omega (arith, so.after)) (inr refl)

    there : (v : ℕ) → 0 < v → v < length links' → before_in links' v ≢ v → In v rest_of
    there v p q n = on (in_or_not v rest_of)
      where
        on : In v rest_of ⊎ (In v rest_of → ⊥) → In v rest_of
        on (inl k) = k
        on (inr m) = absurd (n (gone' v p q m))

    same_at : (v : ℕ) → before_in links' v ≢ v → v ≢ e.before → v ≢ e.after → (before_in links' v ≡ before_in links v) × (after_in links' v ≡ after_in links v)
    same_at v n m k = (un.others_back v k (λ x. n (ap (before_in links') x ∙ un.out ∙ sym x)), un.others v m)

    -- the ones beside its neighbours
    pub beside_before : (v : ℕ) → IsDue t ps links' v → before_in links' v ≢ v → after_in links' v ≡ e.before → (v < e.before) × (v ≡ before_in links e.before)
    beside_before v w n h = grind (arith, there, last', next_in, chain', next_prev)

    pub beside_after : (v : ℕ) → IsDue t ps links' v → before_in links' v ≢ v → before_in links' v ≡ e.after → (e.after < v) × (v ≡ after_in links e.after)
    beside_after v w n h =
        let k = there v w.later (omega (arith, w.inside)) n in
        let m = named (after_in links') (before_in links') 0 rest_of v chain' k in (
          omega (arith, m.1, h),
          sym (prev_next (after_in links') (before_in links') 0 rest_of v chain' k) ∙ ap (after_in links') h ∙ un.others e.after (λ x. absurd (omega (arith, x, so.before, so.after))),
        )

    module _ (re : Renews ps links links' e.before e.after) where
      pub notes_on : AreCached t ps links'
      notes_on = grind (arith, same_or_not, same_at, same_entry)

      cached_same : (v : ℕ) → v ≢ e.before → v ≢ e.after → cached ps links' v ≡ cached ps links v
      unfolding cached
      cached_same v m k = ap (λ n. one n) (re.others v m k)
        where
          one : ℕ → Corner
          one n = record { area = n; point = (vertex_at ps v).point; index = v }

      module _ (has : (d : Entry) → Contains mid d → Contains items' d)
          (near : IsDue t ps links' e.before → Contains items' (entry_in ps links' e.before))
          (far : IsDue t ps links' e.after → Contains items' (entry_in ps links' e.after))
          (ahead : (v : ℕ) → IsDue t ps links' v → before_in links' v ≢ v → after_in links' v ≡ e.before → (is_before (cached ps links e.before) (cached ps links v) ≡ false) ⊎ Contains items' (entry_in ps links' v))
          (following : (v : ℕ) → IsDue t ps links' v → before_in links' v ≢ v → before_in links' v ≡ e.after → (is_before (cached ps links e.after) (cached ps links v) ≡ false) ⊎ Contains items' (entry_in ps links' v))
          (only : (d : Entry) → Contains items' d → Contains mid d ⊎ ((v : ℕ) × IsReady ps links' v × IsUnder t ps links' v d)) where
        covers' : Covers t ps links' items'
        covers' v n w = on (same_or_not v e.before) (same_or_not v e.after)
          where
            There : Type 0
            There = Contains items' (entry_in ps links' v)

            -- an old entry stays
            old : v ≢ e.before → v ≢ e.after → is_before (cached ps links (before_in links v)) (cached ps links v) ≡ false → is_before (cached ps links (after_in links v)) (cached ps links v) ≡ false → There
            old m k p q =
                let a = same_at v n m k in
                let ed = same_entry ps links links' v a.0 a.1 in
                let ni : v ≢ e.index = λ x. n (ap (before_in links') x ∙ un.out ∙ sym x) in
                let is_due : IsDue t ps links v = record { later = w.later; inside = omega (arith, w.inside, un.same); under = subst (λ (x : Entry). x.area < t) ed w.under; before = p; after = q } in
                let c = s.covers v (λ x. n (a.0 ∙ x)) is_due in
                let d = entry_in ps links v in
                let still : Contains mid d = on_stays d ni (index_at ps (before_in links v) v (after_in links v)) (l.stays d c (current_at ps links v (omega (arith, w.inside, un.same)))) in
                subst (λ x. Contains items' x) (sym ed) (has d still)
              where
                on_stays : (d : Entry) → v ≢ e.index → d.index ≡ v → (◌≡◌ {A = Option Entry} (Some e) (Some d)) ⊎ Contains mid d → Contains mid d
                on_stays d ni x (inl y) = let z : e ≡ d = cc in absurd (ni (sym x ∙ ap (λ (w : Entry). w.index) (sym z)))
                on_stays d ni x (inr y) = y

            here : In v rest_of
            here = there v w.later (omega (arith, w.inside)) n

            inner : v < last_of 0 rest_of
            inner = omega (arith, last', s.linked.last, un.same, w.inside)

            same_side : (u u' : ℕ) → v ≢ e.before → v ≢ e.after → u' ≡ u → u' ≢ e.before → u' ≢ e.after → is_before (cached ps links' u') (cached ps links' v) ≡ false → is_before (cached ps links u) (cached ps links v) ≡ false
            same_side u u' m k z x y h = subst (λ a. is_before (cached ps links a) (cached ps links v) ≡ false) z
                (ap (λ a. is_before a (cached ps links v)) (sym (cached_same u' x y)) ∙ ap (is_before (cached ps links' u')) (sym (cached_same v m k)) ∙ h)

            before_side : v ≢ e.before → v ≢ e.after → (is_before (cached ps links (before_in links v)) (cached ps links v) ≡ false) ⊎ There
            before_side m k = pick (same_or_not (before_in links' v) e.before) (same_or_not (before_in links' v) e.after)
              where
                pick : (before_in links' v ≡ e.before) ⊎ (before_in links' v ≢ e.before) → (before_in links' v ≡ e.after) ⊎ (before_in links' v ≢ e.after) → (is_before (cached ps links (before_in links v)) (cached ps links v) ≡ false) ⊎ There
                pick (inl x) y = absurd (k (sym (prev_next (after_in links') (before_in links') 0 rest_of v chain' here) ∙ ap (after_in links') x ∙ un.bridge))
                pick (inr x) (inl y) = elim (following v w n y) [ inl b ↦ inl (subst (λ u. is_before (cached ps links u) (cached ps links v) ≡ false) (sym y ∙ (same_at v n m k).0) b) | inr c ↦ inr c ]
                pick (inr x) (inr y) = inl (same_side (before_in links v) (before_in links' v) m k (same_at v n m k).0 x y w.before)

            after_side : v ≢ e.before → v ≢ e.after → (is_before (cached ps links (after_in links v)) (cached ps links v) ≡ false) ⊎ There
            after_side m k = pick (same_or_not (after_in links' v) e.before) (same_or_not (after_in links' v) e.after)
              where
                pick : (after_in links' v ≡ e.before) ⊎ (after_in links' v ≢ e.before) → (after_in links' v ≡ e.after) ⊎ (after_in links' v ≢ e.after) → (is_before (cached ps links (after_in links v)) (cached ps links v) ≡ false) ⊎ There
                pick (inl x) y = elim (ahead v w n x) [ inl b ↦ inl (subst (λ u. is_before (cached ps links u) (cached ps links v) ≡ false) (sym x ∙ (same_at v n m k).1) b) | inr c ↦ inr c ]
                pick (inr x) (inl y) = absurd (m (sym (next_prev (after_in links') (before_in links') 0 rest_of v chain' here inner) ∙ ap (before_in links') y ∙ un.bridge_back))
                pick (inr x) (inr y) = inl (same_side (after_in links v) (after_in links' v) m k (same_at v n m k).1 x y w.after)

            other : v ≢ e.before → v ≢ e.after → There
            other m k = elim (before_side m k) [ inr c ↦ c | inl p ↦ elim (after_side m k) [ inr c ↦ c | inl q ↦ old m k p q ] ]

            on : (v ≡ e.before) ⊎ (v ≢ e.before) → (v ≡ e.after) ⊎ (v ≢ e.after) → There
            on (inl k) m = subst (λ x. Contains items' (entry_in ps links' x)) (sym k) (near (subst (λ x. IsDue t ps links' x) k w))
            on (inr k) (inl m) = subst (λ x. Contains items' (entry_in ps links' x)) (sym m) (far (subst (λ x. IsDue t ps links' x) m w))
            on (inr k) (inr m) = other k m

        sound' : (d : Entry) → Contains items' d → IsSound t ps d
        sound' d h = on (only d h)
          where
            on : Contains mid d ⊎ ((v : ℕ) × IsReady ps links' v × IsUnder t ps links' v d) → IsSound t ps d
            on (inl k) = s.sound d (l.rest d k)
            on (inr (v, r, u)) =
                let f = r.fits u.0 u.1 in
                subst (λ y. IsSound t ps y) (sym u.2) (sound_at t ps (before_in links' v) v (after_in links' v) f.before f.after f.within (subst (λ (y : Entry). y.area < t) u.2 u.3))

        pub next_state : IsState t ps links' items' (left - 1) rest_of
        next_state =
            let one = one_less (after_in links) (before_in links) 0 e.index vs s.linked.chain in_vs in
            let some = in_length e.after rest_of (in_filter e.index e.after vs after_in_vs (λ x. absurd (omega (arith, x, so.after)))) in
            let fuel : left - 1 + 2 ≡ left + 1 = omega (arith, one, some, s.many) in
            let fuel2 : suc (left + 1) ≡ left + 2 = omega arith in
            let nz : 0 ≢ e.index = λ x. absurd (omega (arith, x, so.before)) in
            record {
              linked = linked_on;
              cached = notes_on;
              size = un.same ∙ s.size;
              covers = covers';
              sound = sound';
              many = omega (arith, one, some, s.many);
              rest = ap (λ n. eliminate n t (vertices ps (0 ∷ rest_of))) fuel
                  ∙ ap (λ x. eliminate (left + 1) t (vertices ps x)) (sym (keep_step e.index 0 vs nz))
                  ∙ ap (eliminate (left + 1) t) (sym (without_vertices ps e.index (0 ∷ vs)))
                  ∙ sym (step_some (left + 1) t (vertices ps (0 ∷ vs)) (entry_corner ps e) (sym is_least) so.under)
                  ∙ ap (λ n. eliminate n t (vertices ps (0 ∷ vs))) fuel2
                  ∙ s.rest;
            }

-- ---- the first state
module _ (after before : ℕ → ℕ) (n : ℕ) (befores : (v : ℕ) → v < n → before v ≡ pred v) (afters : (v : ℕ) → v < n → after v ≡ v + 1) where
  range_chain : (u k : ℕ) → u + k < n → Chain after before u (range_with_len (u + 1) k)
  range_chain u zero h = tt
  range_chain u (suc k) h = (afters u (omega arith), befores (u + 1) (omega arith) ∙ omega arith, omega arith, range_chain (u + 1) k (omega arith))

range_last : (u k : ℕ) → last_of u (range_with_len (u + 1) k) ≡ u + k
range_last u zero = omega arith
range_last u (suc k) = range_last (u + 1) k ∙ omega arith

pub range_in : (u k j : ℕ) → u < j → j ≤ u + k → In j (range_with_len (u + 1) k)
range_in u zero j h l = absurd (omega arith)
range_in u (suc k) j h l = grind (arith, same_or_not, range_in (u + 1) k j)

pub first_fits : (links : List Link) (n v : ℕ) → IsFirst links n → 0 < v → v + 1 < n → Fits links n v
first_fits links n v f h k = grind arith

pub first_ready : (t : ℕ) (ps : List Point) (links : List Link) (v : ℕ) → IsFirst links (length ps) → AreCached t ps links → v < length ps → IsReady ps links v
first_ready t ps links v f n h = grind (arith, fits, first_fits)

pub start_state : (t : ℕ) (ps : List Point) (links : List Link) (items : List Entry) → 2 ≤ length ps → IsFirst links (length ps) → AreCached t ps links →
    HasCorners t ps links items (length ps - 1) → IsState t ps links items (length ps - 2) (range_with_len 1 (length ps - 1))
start_state t ps links items two f nt hc =
    let m : suc (length ps - 1) ≡ length ps = omega arith in
    let fuel : length ps - 2 + 2 ≡ length ps = omega arith in
    record {
      linked = record {
        chain = range_chain (after_in links) (before_in links) (length ps) f.befores f.afters 0 (length ps - 1) (omega arith);
        last = omega (arith, range_last 0 (length ps - 1), f.size);
        gone = λ i p q n. absurd (n (range_in 0 (length ps - 1) i p (omega (arith, f.size))));
      };
      size = f.size;
      cached = nt;
      covers = λ v n w. hc.has v (omega (arith, f.size, w.inside)) w;
      sound = λ d h. let o = hc.only d h in
          let g = first_fits links (length ps) o.0 f o.1 (omega (arith, o.2)) in
          subst (λ x. IsSound t ps x) (sym o.3) (sound_at t ps (before_in links o.0) o.0 (after_in links o.0) g.before g.after g.within (subst (λ (x : Entry). x.area < t) o.3 o.4));
      many = omega (arith, length-range_with_len 1 (length ps - 1));
      rest = ap (λ k. eliminate k t (vertices ps (0 ∷ range_with_len 1 (length ps - 1)))) fuel ∙ ap (λ k. eliminate (length ps) t (vertices ps (range_with_len 0 k))) m ∙ ap (eliminate (length ps) t) (all_vertices ps);
    }

-- ---- the ends
chain_unique : (after before : ℕ → ℕ) (u : ℕ) (xs ys : List ℕ) → Chain after before u xs → Chain after before u ys → last_of u xs ≡ last_of u ys → xs ≡ ys
chain_unique after before u [] [] h k e = refl
chain_unique after before u [] (y ∷ ys) h k e = absurd (omega (arith, k.2, e, no_further after before y ys k.3))
chain_unique after before u (x ∷ xs) [] h k e = absurd (omega (arith, h.2, e, no_further after before x xs h.3))
chain_unique after before u (x ∷ xs) (y ∷ ys) h k e = grind (arith, chain_unique after before y xs ys)

pub same_present : (links : List Link) (vs ws : List ℕ) → IsLinked links vs → IsLinked links ws → vs ≡ ws
same_present links vs ws h k = chain_unique (after_in links) (before_in links) 0 vs ws h.chain k.chain (omega (arith, h.last, k.last))

-- where no corner is under the threshold, none is removed
none_taken : (n t : ℕ) (vs : List Vertex) → AllByRecursion (λ c. t ≤ c.area) (corners vs) → eliminate n t vs ≡ vs
none_taken n t vs h = grind (arith, least_holds, step_none, step_over)

-- where no current entry is left, no corner is under the threshold
pub none_under : (t : ℕ) (ps : List Point) (links : List Link) (items mid : List Entry) (left : ℕ) (vs : List ℕ) →
    IsState t ps links items left vs → LeavesCurrent ps links items None mid → mid ≡ [] → AllByRecursion (λ c. t ≤ c.area) (corners (vertices ps (0 ∷ vs)))
none_under t ps links items mid left vs s l em = least_decides (λ d. t ≤ d.area) (λ d. t ≤ d.area) (corners (vertices ps (0 ∷ vs)))
    (all_present (after_in links) (before_in links) (λ d. NoneBefore d (corners (vertices ps (0 ∷ vs))) → t ≤ d.area) ps vs s.linked.chain (λ v p k m none. at v p k m none (cases_lt (corner_of t ps links vs s.linked s.cached v).area t)))
    (λ d x h n. over d x h n (cases_lt x.area d.area))
  where
    over : (d x : Corner) → t ≤ d.area → is_before x d ≡ false → (x.area < d.area) ⊎ (d.area ≤ x.area) → t ≤ x.area
    over d x h n (inl k) = let f : false ≡ true = sym n ∙ under_first x d k in absurd (cc)
    over d x h n (inr k) = omega (arith, h, k)

    gone : (d : Entry) → (◌≡◌ {A = Option Entry} None (Some d)) ⊎ Contains mid d → ⊥
    gone d (inl p) = absurd (cc)
    gone d (inr p) = let k : Contains [] d = subst (λ (x : List Entry). Contains x d) em p in absurd (omega (arith, k.1))

    at : (v : ℕ) → 0 < v → In v vs → v < last_of 0 vs → NoneBefore (corner_of t ps links vs s.linked s.cached v) (corners (vertices ps (0 ∷ vs))) →
        ((corner_of t ps links vs s.linked s.cached v).area < t) ⊎ (t ≤ (corner_of t ps links vs s.linked s.cached v).area) → t ≤ (corner_of t ps links vs s.linked s.cached v).area
    at v p k m none (inl u) =
        let n = named (after_in links) (before_in links) 0 vs v s.linked.chain k in
        let c = s.covers v (λ q. absurd (omega (arith, q, n.1))) (first_is_due t ps links vs s.linked s.cached v p k m u none) in
        absurd (gone (entry_in ps links v) (l.stays (entry_in ps links v) c (current_at ps links v (omega (arith, s.linked.last, m)))))
    at v p k m none (inr o) = o

-- those that are present stay where none is under the threshold
pub end_none : (t : ℕ) (ps : List Point) (links : List Link) (items : List Entry) (left : ℕ) (vs : List ℕ) →
    IsState t ps links items left vs → AllByRecursion (λ c. t ≤ c.area) (corners (vertices ps (0 ∷ vs))) → 0 ∷ vs ≡ reduce t ps
end_none t ps links items left vs s h = settled t ps (0 ∷ vs) (sym (none_taken (left + 2) t (vertices ps (0 ∷ vs)) h) ∙ s.rest)

-- the links are theirs
pub none_first : (t : ℕ) (ps : List Point) (links links' : List Link) (items items' : List Entry) (left : ℕ) (vs : List ℕ) →
    IsState t ps links items left vs → RemovesFirst t ps links' items' left vs None → (x : List ℕ) × IsLinked links' x × (0 ∷ x ≡ reduce t ps)
none_first t ps links links' items items' left vs s h = (vs, h.0, end_none t ps links items left vs s h.1)

-- and so many are they
pub many_stay : (t : ℕ) (ps : List Point) (links links' : List Link) (items items' : List Entry) (left : ℕ) (vs : List ℕ) →
    IsState t ps links items left vs → RemovesFirst t ps links' items' left vs None → left + 2 ≡ length (reduce t ps)
many_stay t ps links links' items items' left vs s h =
    let e : left + 2 ≡ length (0 ∷ vs) = omega (arith, s.many) in
    e ∙ ap length (end_none t ps links items left vs s h.1)

-- a turn with its two pushes
pub turn_state : (t : ℕ) (ps : List Point) (links links' : List Link) (items mid one two : List Entry) (left : ℕ) (vs : List ℕ) (e : Entry) (f l : ℕ) (kf kl : Bool) →
    IsState t ps links items left vs → LeavesCurrent ps links items (Some e) mid → IsCurrent links e →
    Unlinks links links' e.before e.index e.after → Renews ps links links' e.before e.after →
    IsReady ps links' e.before → IsReady ps links' f → IsReady ps links' e.after → IsReady ps links' l →
    (0 < e.before → f ≡ before_in links e.before) → (e.before ≡ 0 → f ≡ e.before) → (e.after + 1 < length links → l ≡ after_in links e.after) → (e.after + 1 ≡ length links → l ≡ e.after) →
    (kf ≡ true → is_before (cached ps links e.before) (cached ps links f) ≡ false) → (kl ≡ true → is_before (cached ps links e.after) (cached ps links l) ≡ false) →
    PushedFirst t ps links' mid one e.before f kf → PushedFirst t ps links' one two e.after l kl →
    IsRemoved t ps links' two left vs e
turn_state t ps links links' items mid one two left vs e f l kf kl s lc cur un re rb rf ra rl ef zf el zl nf nl p q =
    let n = next_state t ps links links' items mid two left vs e s lc cur un re (λ d h. q.has d (p.has d h))
    (λ w. q.has (entry_in ps links' e.before) (p.inner w (inl (eb w.later))))
    (λ w. q.inner w (inr (un.others e.after (λ x. absurd (omega (arith, x, sound.before, sound.after))) ∙ sym (el (omega (arith, w.inside, un.same))))))
    (λ v w n h. ahead v w h (beside_before t ps links links' items mid two left vs e s lc cur un v w n h) kf refl)
    (λ v w n h. following v w h (beside_after t ps links links' items mid two left vs e s lc cur un v w n h) kl refl) only in
    record {
      some = some_left t ps links links' items mid two left vs e s lc cur un;
      first = is_least t ps links links' items mid two left vs e s lc cur;
      present = in_vs t ps links links' items mid two left vs e s lc cur;
      later = omega (arith, sound.before);
      within = omega (arith, sound.after, sound.within);
      rest = n;
    }
  where
    sound : IsSound t ps e
    sound = so t ps links links' items mid two left vs e s lc cur

    eb : 0 < e.before → before_in links' e.before ≡ f
    eb h = un.others_back e.before (λ x. absurd (omega (arith, x, sound.before, sound.after))) (λ x. absurd (omega (arith, x, sound.before))) ∙ sym (ef h)

    ahead : (v : ℕ) → IsDue t ps links' v → after_in links' v ≡ e.before → (v < e.before) × (v ≡ before_in links e.before) → (k : Bool) → kf ≡ k → (is_before (cached ps links e.before) (cached ps links v) ≡ false) ⊎ Contains two (entry_in ps links' v)
    ahead v w h b true z = inl (subst (λ x. is_before (cached ps links e.before) (cached ps links x) ≡ false) (ef (omega (arith, b.0)) ∙ sym b.1) (nf z))
    ahead v w h b false z =
        let ev : v ≡ f = b.1 ∙ sym (ef (omega (arith, b.0))) in
        inr (q.has (entry_in ps links' v) (subst (λ x. Contains one (entry_in ps links' x)) (sym ev)
        (p.outer z (λ x. absurd (omega (arith, x, ev, b.0))) (subst (λ x. IsDue t ps links' x) ev w) (inr (ap (after_in links') (sym ev) ∙ h)))))

    following : (v : ℕ) → IsDue t ps links' v → before_in links' v ≡ e.after → (e.after < v) × (v ≡ after_in links e.after) → (k : Bool) → kl ≡ k → (is_before (cached ps links e.after) (cached ps links v) ≡ false) ⊎ Contains two (entry_in ps links' v)
    following v w h b true z = inl (subst (λ x. is_before (cached ps links e.after) (cached ps links x) ≡ false) (el (omega (arith, b.0, w.inside, un.same)) ∙ sym b.1) (nl z))
    following v w h b false z =
        let ev : v ≡ l = b.1 ∙ sym (el (omega (arith, b.0, w.inside, un.same))) in
        inr (subst (λ x. Contains two (entry_in ps links' x)) (sym ev)
        (q.outer z (λ x. absurd (omega (arith, x, ev, b.0))) (subst (λ x. IsDue t ps links' x) ev w) (inl (ap (before_in links') (sym ev) ∙ h))))

    of_first : (d : Entry) → Contains mid d ⊎ (IsUnder t ps links' e.before d ⊎ IsUnder t ps links' f d) → Contains mid d ⊎ ((v : ℕ) × IsReady ps links' v × IsUnder t ps links' v d)
    of_first d (inl k) = inl k
    of_first d (inr (inl u)) = inr (e.before, rb, u)
    of_first d (inr (inr u)) = inr (f, rf, u)

    of_last : (d : Entry) → Contains one d ⊎ (IsUnder t ps links' e.after d ⊎ IsUnder t ps links' l d) → Contains mid d ⊎ ((v : ℕ) × IsReady ps links' v × IsUnder t ps links' v d)
    of_last d (inl k) = of_first d (p.only d k)
    of_last d (inr (inl u)) = inr (e.after, ra, u)
    of_last d (inr (inr u)) = inr (l, rl, u)

    only : (d : Entry) → Contains two d → Contains mid d ⊎ ((v : ℕ) × IsReady ps links' v × IsUnder t ps links' v d)
    only d h = of_last d (q.only d h)

-- what is compared in a turn can be compared
pub record AllReady (ps : List Point) (links : List Link) (b f a l : ℕ) : Type 0 where
  pub before : IsReady ps links b
  pub ahead : IsReady ps links f
  pub after : IsReady ps links a
  pub following : IsReady ps links l

pub all_ready : (t : ℕ) (ps : List Point) (links : List Link) (vs : List ℕ) (b f a l : ℕ) → IsLinked links vs → AreCached t ps links → length links ≡ length ps → (b ≡ 0) ⊎ In b vs → In a vs →
    (b ≡ 0 → f ≡ b) → (0 < b → f ≡ before_in links b) → (a + 1 ≡ length links → l ≡ a) → (a + 1 < length links → l ≡ after_in links a) → AllReady ps links b f a l
all_ready t ps links vs b f a l h n z ib ia zf ef zl el = record {
  before = ready_at t ps links vs h n z b ib;
  ahead = ready_at t ps links vs h n z f (ahead_in links vs b f h ib zf ef);
  after = ready_at t ps links vs h n z a (inr ia);
  following = ready_at t ps links vs h n z l (inr (after_is_in links vs a l h ia zl el));
}

pub old_ready : (t : ℕ) (ps : List Point) (links : List Link) (items mid : List Entry) (left : ℕ) (vs : List ℕ) (e : Entry) (f l : ℕ) →
    IsState t ps links items left vs → LeavesCurrent ps links items (Some e) mid → IsCurrent links e →
    (e.before ≡ 0 → f ≡ e.before) → (0 < e.before → f ≡ before_in links e.before) → (e.after + 1 ≡ length links → l ≡ e.after) → (e.after + 1 < length links → l ≡ after_in links e.after) →
    AllReady ps links e.before f e.after l
old_ready t ps links items mid left vs e f l s lc cur zf ef zl el =
    let present = in_vs t ps links links items mid mid left vs e s lc cur in
    all_ready t ps links vs e.before f e.after l s.linked s.cached s.size
    (elim (prev_in (after_in links) (before_in links) 0 vs e.index s.linked.chain present) [ inl x ↦ inl (sym cur.before ∙ x) | inr x ↦ inr (subst (λ y. In y vs) cur.before x) ])
    (subst (λ y. In y vs) cur.after (next_in (after_in links) (before_in links) 0 vs e.index s.linked.chain present (inside t ps links links items mid mid left vs e s lc cur)).0)
    zf ef zl el

pub new_ready : (t : ℕ) (ps : List Point) (links links' : List Link) (items mid : List Entry) (left : ℕ) (vs : List ℕ) (e : Entry) (f l : ℕ) →
    IsState t ps links items left vs → LeavesCurrent ps links items (Some e) mid → IsCurrent links e → Unlinks links links' e.before e.index e.after → Renews ps links links' e.before e.after →
    (e.before ≡ 0 → f ≡ e.before) → (0 < e.before → f ≡ before_in links e.before) → (e.after + 1 ≡ length links → l ≡ e.after) → (e.after + 1 < length links → l ≡ after_in links e.after) →
    AllReady ps links' e.before f e.after l
new_ready t ps links links' items mid left vs e f l s lc cur un re zf ef zl el =
    let o = so t ps links links' items mid mid left vs e s lc cur in
    all_ready t ps links' (filter (λ v. not (eqb v e.index)) vs) e.before f e.after l (linked_on t ps links links' items mid mid left vs e s lc cur un)
    (notes_on t ps links links' items mid mid left vs e s lc cur un re) (un.same ∙ s.size)
    (before_stays t ps links links' items mid mid left vs e s lc cur un) (after_stays t ps links links' items mid mid left vs e s lc cur un)
    zf (λ p. ef p ∙ sym (un.others_back e.before (λ x. absurd (omega (arith, x, o.before, o.after))) (λ x. absurd (omega (arith, x, o.before)))))
    (λ p. zl (p ∙ un.same)) (λ p. el (omega (arith, p, un.same)) ∙ sym (un.others e.after (λ x. absurd (omega (arith, x, o.before, o.after)))))

-- the two neighbours fit
pub turn_fits : (t : ℕ) (ps : List Point) (links links' : List Link) (items mid : List Entry) (left : ℕ) (vs : List ℕ) (e : Entry) →
    IsState t ps links items left vs → LeavesCurrent ps links items (Some e) mid → IsCurrent links e →
    Unlinks links links' e.before e.index e.after → (v : ℕ) → (v ≡ e.before) ⊎ (v ≡ e.after) → 0 < v → v + 1 < length links' → Fits links' (length ps) v
turn_fits t ps links links' items mid left vs e s l cur un v k p q = grind (arith, fits)

pub more_corners : (t : ℕ) (ps : List Point) (links : List Link) (old new : List Entry) (i : ℕ) → HasCorners t ps links old i → Pushed t ps links old new i →
    0 < i → i + 1 < length links → HasCorners t ps links new (i + 1)
more_corners t ps links old new i h p z w = record { has = λ v b u. on v b u (same_or_not v i); only = λ d k. from d (p.only d k) }
  where
    on : (v : ℕ) → v < i + 1 → IsDue t ps links v → (v ≡ i) ⊎ (v ≢ i) → Contains new (entry_in ps links v)
    on v b u (inl e) = subst (λ x. Contains new (entry_in ps links x)) (sym e) (p.here (subst (λ x. IsDue t ps links x) e u))
    on v b u (inr n) = p.has (entry_in ps links v) (h.has v (omega arith) u)

    from : (d : Entry) → Contains old d ⊎ IsUnder t ps links i d → (v : ℕ) × (0 < v) × (v < i + 1) × (d ≡ entry_in ps links v) × (d.area < t)
    from d (inl k) = let o = h.only d k in (o.0, o.1, omega (arith, o.2), o.3, o.4)
    from d (inr m) = (i, z, omega arith, m.2, m.3)

-- a clause of an answer, from another
pub ok_also : {X E : Type 0} (P Q : X → Type 0) (r : Result X E) → ((x : X) → P x → Q x) → IfOk r P → IfOk r Q
ok_also P Q (Ok x) f h = f x h
ok_also P Q (Err e) f h = h

-- at the threshold zero all stay
pub all_at_zero : (t : ℕ) (ps : List Point) (is : List ℕ) → t ≡ 0 → is ≡ range_with_len 0 (length ps) → is ≡ reduce t ps
all_at_zero t ps is z e = e ∙ subst (λ k. range_with_len 0 (length ps) ≡ reduce k ps) (sym z) (settled 0 ps (range_with_len 0 (length ps)) (all_vertices ps ∙ sym (eliminate_zero (length ps) (numbered 0 ps))))
