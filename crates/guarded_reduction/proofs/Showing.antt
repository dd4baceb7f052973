-- What lists that show arcs say of their corners.
use Rattle.std.proofs.Common.{◌≡◌, ◌≢◌, ℕ, suc, ◌<◌, ◌==◌, Bool, true, false, ◌&&◌, ◌||◌, List, [], ◌∷◌, length, map, slice_index, refl, ap, sym, ◌∙◌, subst, ◌⊎◌, inl, inr, arith}
use Rattle.std.specs.List.{AllByRecursion}
use Rattle.std.proofs.lemmas.Bool.{and_parts, or_cases, or_right, false_from_ne_true, eqb-true, eq-eqb}
use Rattle.owned_values.proofs.Elements.{each_of}
use Rattle.owned_values.proofs.Members.{in_right}
use Rattle.geometry.specs.Areas.{twice_area}
use Rattle.geometry.specs.Lists.{In}
use Rattle.geometry.specs.Points.{Point}
use Rattle.elimination_meaning.specs.Elimination.{Vertex, numbered}
use Rattle.elimination_meaning.proofs.Sublists.{sub_filter, sub_map, sub_apart}
use Rattle.guarded_meaning.specs.Arcs.{ArcCorner, arc_corner_at, all_corners, Place, place_at, places, is_place_of, Neighbours, neighbours_at, all_neighbours, is_pair_of, HasOwnIndexes}
use Rattle.guarded_meaning.specs.Weights.{passing}
use Rattle.guarded_meaning.proofs.Holders.{places_passing}
use Rattle.guarded_meaning.proofs.Lists.{passed_says}
use Rattle.guarded_meaning.proofs.Neighbours.{AreParted, all_parted, AreAmong, all_among, Rises, all_ascend}
use Rattle.guarded_meaning.proofs.Removal.{all_numbered_own}
use Rattle.guarded_meaning.proofs.Thinned.{numbered_rising, sub_rising}
use Rattle.guarded_reduction.specs.Indexes.{is_left_at, point_at}
use Rattle.guarded_reduction.specs.Laws.{IsLinked, Leads}
use Rattle.guarded_reduction.specs.Entries.{entry_in}
use Rattle.guarded_reduction.specs.Linking.{Linked, IsChained, IsCorner, IsShowing}
use Rattle.guarded_reduction.specs.Numbers.{number, HasPlace, left_arcs}
use Rattle.guarded_reduction.proofs.Corners.{corner_between}
use Rattle.guarded_reduction.proofs.Numbers.{numbers_rise, same_number}
use Rattle.guarded_reduction.proofs.Placed.{placed}

-- ---- arcs without some places

passing_own : (p : Place → Bool) (k : ℕ) (arcs : List (List Vertex)) → AllByRecursion HasOwnIndexes arcs → AllByRecursion HasOwnIndexes (passing p k arcs)
passing_own p k [] h = tt
passing_own p k (vs ∷ arcs) h = (sub_apart (sub_map (λ v. v.index) (sub_filter (λ v. p (place_at k v)) vs)) h.0, passing_own p (suc k) arcs h.1)

passing_rise : (p : Place → Bool) (k : ℕ) (arcs : List (List Vertex)) → AllByRecursion Rises arcs → AllByRecursion Rises (passing p k arcs)
passing_rise p k [] h = tt
passing_rise p k (vs ∷ arcs) h = (sub_rising (sub_map (λ v. v.index) (sub_filter (λ v. p (place_at k v)) vs)) h.0, passing_rise p (suc k) arcs h.1)

all_rise : (arcs : List (List Point)) → AllByRecursion Rises (map (numbered 0) arcs)
all_rise [] = tt
all_rise (ps ∷ arcs) = (numbered_rising 0 ps, all_rise arcs)

module _ (arcs : List (List Point)) (bs : List Bool) where
  abbrev left_test : Place → Bool
  left_test x = is_left_at bs (number arcs x.arc x.vertex.index)

  pub own_left : AllByRecursion HasOwnIndexes (left_arcs arcs bs)
  own_left = passing_own left_test 0 (map (numbered 0) arcs) (all_numbered_own arcs)

  pub rise_left : AllByRecursion Rises (left_arcs arcs bs)
  rise_left = passing_rise left_test 0 (map (numbered 0) arcs) (all_rise arcs)

  whole_place : (x : Place) → In x (places 0 (left_arcs arcs bs)) → In x (places 0 (map (numbered 0) arcs))
  whole_place x m = (passed_says left_test x (places 0 (map (numbered 0) arcs)) (subst (In x) (places_passing left_test 0 (map (numbered 0) arcs)) m)).0

  pub has_place : (x : Place) → In x (places 0 (left_arcs arcs bs)) → HasPlace arcs x.arc x.vertex.index
  has_place x m = let r = placed 0 arcs x (whole_place x m) in let e : r.m ≡ x.arc = omega (arith, r.arc) in subst (λ (k : ℕ). HasPlace arcs k x.vertex.index) e r.there

  pub among : (j : Neighbours) → In j (all_neighbours 0 (left_arcs arcs bs)) → AreAmong (places 0 (left_arcs arcs bs)) j
  among j m = each_of (AreAmong (places 0 (left_arcs arcs bs))) (all_neighbours 0 (left_arcs arcs bs)) j (all_among 0 (left_arcs arcs bs)) m

  pub ascends : (j : Neighbours) → In j (all_neighbours 0 (left_arcs arcs bs)) → number arcs j.arc j.from.index < number arcs j.arc j.to.index
  ascends j m = numbers_rise arcs j.arc j.from.index j.arc j.to.index (has_place (place_at j.arc j.from) (among j m).0)
      (inr (refl, each_of (λ n. n.from.index < n.to.index) (all_neighbours 0 (left_arcs arcs bs)) j (all_ascend 0 (left_arcs arcs bs) rise_left) m))

-- ---- the own place and pairs

pub place_of : (c : ArcCorner) (x : Place) → x.arc ≡ c.arc → x.vertex.index ≡ c.corner.index → is_place_of c x ≡ true
place_of c x e f = ap (λ b. b && (x.vertex.index == c.corner.index)) (eq-eqb x.arc c.arc e) ∙ eq-eqb x.vertex.index c.corner.index f

pair_from : (c : ArcCorner) (j : Neighbours) → j.arc ≡ c.arc → j.from.index ≡ c.corner.index → is_pair_of c j ≡ true
pair_from c j e f = ap (λ b. b && ((j.from.index == c.corner.index) || (j.to.index == c.corner.index))) (eq-eqb j.arc c.arc e) ∙ ap (λ b. b || (j.to.index == c.corner.index)) (eq-eqb j.from.index c.corner.index f)

pair_to : (c : ArcCorner) (j : Neighbours) → j.arc ≡ c.arc → j.to.index ≡ c.corner.index → is_pair_of c j ≡ true
pair_to c j e f = ap (λ b. b && ((j.from.index == c.corner.index) || (j.to.index == c.corner.index))) (eq-eqb j.arc c.arc e) ∙ or_right (j.from.index == c.corner.index) (j.to.index == c.corner.index) (eq-eqb j.to.index c.corner.index f)

module _ (arcs : List (List Point)) (bs : List Bool) (c : ArcCorner) (there : HasPlace arcs c.arc c.corner.index) where
  abbrev own : ℕ
  own = number arcs c.arc c.corner.index

  -- its number is that of no other place
  pub own_place : (x : Place) → In x (places 0 (left_arcs arcs bs)) → number arcs x.arc x.vertex.index ≡ own → is_place_of c x ≡ true
  own_place x m e = let r = same_number arcs x.arc x.vertex.index c.arc c.corner.index (has_place arcs bs x m) there e in place_of c x r.0 r.1

  pub own_from : (j : Neighbours) → In j (all_neighbours 0 (left_arcs arcs bs)) → number arcs j.arc j.from.index ≡ own → is_pair_of c j ≡ true
  own_from j m e = let r = same_number arcs j.arc j.from.index c.arc c.corner.index (has_place arcs bs (place_at j.arc j.from) (among arcs bs j m).0) there e in pair_from c j r.0 r.1

  pub own_to : (j : Neighbours) → In j (all_neighbours 0 (left_arcs arcs bs)) → number arcs j.arc j.to.index ≡ own → is_pair_of c j ≡ true
  own_to j m e = let r = same_number arcs j.arc j.to.index c.arc c.corner.index (has_place arcs bs (place_at j.arc j.to) (among arcs bs j m).1) there e in pair_to c j r.0 r.1

  -- a place of its number is its own
  pub other_place : (x : Place) → (number arcs x.arc x.vertex.index ≡ own → ⊥) → is_place_of c x ≡ false
  other_place x n = false_from_ne_true (is_place_of c x) (λ h. let r = and_parts (x.arc == c.arc) (x.vertex.index == c.corner.index) h in
      n (ap (λ k. number arcs k x.vertex.index) (eqb-true x.arc c.arc r.0) ∙ ap (λ i. number arcs c.arc i) (eqb-true x.vertex.index c.corner.index r.1)))

  pub other_pair : (j : Neighbours) → (number arcs j.arc j.from.index ≡ own → ⊥) → (number arcs j.arc j.to.index ≡ own → ⊥) → is_pair_of c j ≡ false
  other_pair j n m = false_from_ne_true (is_pair_of c j) (λ h. let r = and_parts (j.arc == c.arc) ((j.from.index == c.corner.index) || (j.to.index == c.corner.index)) h in
      by (eqb-true j.arc c.arc r.0) (or_cases (j.from.index == c.corner.index) (j.to.index == c.corner.index) r.1))
    where
      by : j.arc ≡ c.arc → ((j.from.index == c.corner.index) ≡ true) ⊎ ((j.to.index == c.corner.index) ≡ true) → ⊥
      by e (inl f) = n (ap (λ k. number arcs k j.from.index) e ∙ ap (λ i. number arcs c.arc i) (eqb-true j.from.index c.corner.index f))
      by e (inr f) = m (ap (λ k. number arcs k j.to.index) e ∙ ap (λ i. number arcs c.arc i) (eqb-true j.to.index c.corner.index f))

-- ---- corners

-- what the lists say at the place of a corner
pub record IsShownCorner (arcs : List (List Point)) (s : Linked) (d : ArcCorner) : Type 0 where
  pub there : HasPlace arcs d.arc d.corner.index
  pub corner : IsCorner s (number arcs d.arc d.corner.index)
  pub before : d.before ≡ point_at s.positions (slice_index s.befores (number arcs d.arc d.corner.index))
  pub point : d.corner.point ≡ point_at s.positions (number arcs d.arc d.corner.index)
  pub after : d.after ≡ point_at s.positions (slice_index s.afters (number arcs d.arc d.corner.index))
  pub area : d.corner.area ≡ (entry_in s (number arcs d.arc d.corner.index)).area

module _ (arcs : List (List Point)) (s : Linked) (show : IsShowing arcs s) where
  abbrev now : List (List Vertex)
  now = left_arcs arcs s.left

  linked : (j : Neighbours) → In j (all_neighbours 0 now) → IsLinked s.positions s.left s.befores s.afters (number arcs j.arc j.from.index) (number arcs j.arc j.to.index) j.from.point j.to.point
  linked j m = show.shows.pair j m

  parted_shown : (d : ArcCorner) (a p e : Vertex) → d ≡ arc_corner_at d.arc a p e → In (neighbours_at d.arc a p) (all_neighbours 0 now) → In (neighbours_at d.arc p e) (all_neighbours 0 now) → IsShownCorner arcs s d
  parted_shown d a p e at m n =
      let k = linked (neighbours_at d.arc a p) m in
      let l = linked (neighbours_at d.arc p e) n in
      let i : p.index ≡ d.corner.index = sym (ap (λ (c : ArcCorner). c.corner.index) at) in
      let z : number arcs d.arc p.index ≡ number arcs d.arc d.corner.index = ap (λ x. number arcs d.arc x) i in
      let before_is : slice_index s.befores (number arcs d.arc d.corner.index) ≡ number arcs d.arc a.index = ap (λ x. slice_index s.befores x) (sym z) ∙ k.before 0 in
      let after_is : slice_index s.afters (number arcs d.arc d.corner.index) ≡ number arcs d.arc e.index = ap (λ x. slice_index s.afters x) (sym z) ∙ l.after 0 in
      let up = ascends arcs s.left (neighbours_at d.arc a p) m in
      let on = ascends arcs s.left (neighbours_at d.arc p e) n in
      let ea : d.before ≡ point_at s.positions (slice_index s.befores (number arcs d.arc d.corner.index)) = ap (λ (c : ArcCorner). c.before) at ∙ sym k.from.point ∙ ap (point_at s.positions) (sym before_is) in
      let ep : d.corner.point ≡ point_at s.positions (number arcs d.arc d.corner.index) = ap (λ (c : ArcCorner). c.corner.point) at ∙ sym k.to.point ∙ ap (point_at s.positions) z in
      let ee : d.after ≡ point_at s.positions (slice_index s.afters (number arcs d.arc d.corner.index)) = ap (λ (c : ArcCorner). c.after) at ∙ sym l.to.point ∙ ap (point_at s.positions) (sym after_is) in
      record {
        there = subst (λ x. HasPlace arcs d.arc x) i (has_place arcs s.left (place_at d.arc p) (among arcs s.left (neighbours_at d.arc a p) m).1);
        corner = record {
          within = subst (λ x. x < length s.positions) z k.to.within;
          left = subst (λ x. is_left_at s.left x ≡ true) z k.to.left;
          before = λ q. omega (arith, q, before_is, z, up);
          after = λ q. omega (arith, q, after_is, z, on);
        };
        before = ea;
        point = ep;
        after = ee;
        area = area_is (ap (λ (c : ArcCorner). c.corner.area) at) (sym (ap (λ (c : ArcCorner). c.before) at) ∙ ea) (sym (ap (λ (c : ArcCorner). c.corner.point) at) ∙ ep) (sym (ap (λ (c : ArcCorner). c.after) at) ∙ ee);
      }
    where
      area_is : {n : ℕ} {x y z u v w : Point} → n ≡ twice_area x y z → x ≡ u → y ≡ v → z ≡ w → n ≡ twice_area u v w
      area_is {n = n} {x = x} {y = y} {z = z} {u = u} {v = v} {w = w} q e f g = q ∙ ap (λ t. twice_area t y z) e ∙ ap (λ t. twice_area u t z) f ∙ ap (λ t. twice_area u v t) g

  pub shown_corner : (d : ArcCorner) → In d (all_corners 0 now) → IsShownCorner arcs s d
  shown_corner d m =
      let r = each_of (AreParted now) (all_corners 0 now) d (all_parted now (own_left arcs s.left)) m in
      parted_shown d r.a r.p r.d r.at
      (subst (In (neighbours_at d.arc r.a r.p)) (sym r.was) (in_right (neighbours_at d.arc r.a r.p) r.front (neighbours_at d.arc r.a r.p ∷ (neighbours_at d.arc r.p r.d ∷ r.back)) (inl refl)))
      (subst (In (neighbours_at d.arc r.p r.d)) (sym r.was) (in_right (neighbours_at d.arc r.p r.d) r.front (neighbours_at d.arc r.a r.p ∷ (neighbours_at d.arc r.p r.d ∷ r.back)) (inr (inl refl))))

  -- a corner of this number
  pub record IsFound (z : ℕ) : Type 0 where
    pub corner : ArcCorner
    pub there : In corner (all_corners 0 now)
    pub number_is : number arcs corner.arc corner.corner.index ≡ z

  met : (z : ℕ) (n m : Neighbours) → In n (all_neighbours 0 now) → In m (all_neighbours 0 now) → number arcs n.arc n.to.index ≡ z → number arcs m.arc m.from.index ≡ z → IsFound z
  met z n m i j e f =
      let r = same_number arcs n.arc n.to.index m.arc m.from.index (has_place arcs s.left (place_at n.arc n.to) (among arcs s.left n i).1) (has_place arcs s.left (place_at m.arc m.from) (among arcs s.left m j).0) (e ∙ sym f) in
      record { corner = arc_corner_at n.arc n.from n.to m.to; there = corner_between 0 now n m (own_left arcs s.left) i j r.0 r.1; number_is = e }

  pub found : (z : ℕ) → IsCorner s z → IsFound z
  found z h = on (show.only.before z 0 h.within h.left) (show.only.after z 0 h.within h.left)
    where
      on : (slice_index s.befores z ≡ z) ⊎ Leads (number arcs) s.positions now (slice_index s.befores z) z → (slice_index s.afters z ≡ z) ⊎ Leads (number arcs) s.positions now z (slice_index s.afters z) → IsFound z
      on (inl e) r = absurd (h.before e)
      on (inr l) (inl e) = absurd (h.after e)
      on (inr l) (inr r) = met z l.pair r.pair l.there r.there l.to r.from

  pub chained : IsChained s
  chained = record { before = λ z w l n. back z n (show.only.before z 0 w l); after = λ z w l n. on z n (show.only.after z 0 w l) }
    where
      back : (z : ℕ) → slice_index s.befores z ≢ z → (slice_index s.befores z ≡ z) ⊎ Leads (number arcs) s.positions now (slice_index s.befores z) z →
          (is_left_at s.left (slice_index s.befores z) ≡ true) × (slice_index s.afters (slice_index s.befores z) ≡ z)
      back z n (inl e) = absurd (n e)
      back z n (inr l) = let k = linked l.pair l.there in (subst (λ y. is_left_at s.left y ≡ true) l.from k.from.left, subst (λ y. slice_index s.afters y ≡ z) l.from (k.after 0 ∙ l.to))

      on : (z : ℕ) → slice_index s.afters z ≢ z → (slice_index s.afters z ≡ z) ⊎ Leads (number arcs) s.positions now z (slice_index s.afters z) →
          (is_left_at s.left (slice_index s.afters z) ≡ true) × (slice_index s.befores (slice_index s.afters z) ≡ z)
      on z n (inl e) = absurd (n e)
      on z n (inr l) = let k = linked l.pair l.there in (subst (λ y. is_left_at s.left y ≡ true) l.to k.to.left, subst (λ y. slice_index s.befores y ≡ z) l.to (k.before 0 ∙ l.from))
