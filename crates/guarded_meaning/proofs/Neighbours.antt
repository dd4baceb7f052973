-- The neighbours of arcs, and what a corner that goes makes of them: one pair in the place of its own two.
use Rattle.std.proofs.Common.{◌≡◌, ◌≢◌, ℕ, suc, ◌<◌, ◌==◌, false, ◌&&◌, ◌||◌, List, [], ◌∷◌, ◌++◌, map, refl, ap, sym, ◌∙◌, subst, append_assoc, arith}
use Rattle.guarded_meaning.proofs.Names.{and_right, or_from, ne_eqb, nat_tests, map-append, AllByRecursion, all_weaker, all_two, all_append, all_right, all_map, all_of_map, all_of, in_left, in_right, AreDistinct, In, Point, Vertex, without, ArcCorner, arc_corner_at, arc_corners, all_corners, Place, place_at, places, Neighbours, neighbours_at, segment_of, neighbours_from, neighbours, all_neighbours, is_pair_of, left_by, points_of, HasOwnIndexes, Segment, segment, segments_from, line_segments}
use Rattle.guarded_meaning.proofs.Removal.{IsTaken, all_taken, in_next_arc, first_and_later}
use Rattle.guarded_meaning.proofs.Thinned.{AreRising}

-- ---- their segments, by their positions

abbrev pub all_segments : List (List Point) → List Segment
all_segments [] = []
all_segments (ps ∷ arcs) = line_segments ps ++ all_segments arcs

from_segments : (k : ℕ) (a : Vertex) (vs : List Vertex) → map segment_of (neighbours_from k a vs) ≡ segments_from a.point (map (λ v. v.point) vs)
from_segments k a [] = refl
from_segments k a (b ∷ vs) = ap (λ ss. segment a.point b.point ∷ ss) (from_segments k b vs)

in_segments : (k : ℕ) (vs : List Vertex) → map segment_of (neighbours k vs) ≡ line_segments (map (λ v. v.point) vs)
in_segments k [] = refl
in_segments k (a ∷ vs) = from_segments k a vs

pub segments_are : (k : ℕ) (arcs : List (List Vertex)) → map segment_of (all_neighbours k arcs) ≡ all_segments (points_of arcs)
segments_are k [] = refl
segments_are k (vs ∷ arcs) = map-append segment_of (neighbours k vs) (all_neighbours (suc k) arcs) ∙ ap (λ ss. ss ++ map segment_of (all_neighbours (suc k) arcs)) (in_segments k vs)
    ∙ ap (λ ss. line_segments (map (λ v. v.point) vs) ++ ss) (segments_are (suc k) arcs)

-- ---- split

from_split : (k : ℕ) (a : Vertex) (xs : List Vertex) (b : Vertex) (ys : List Vertex) → neighbours_from k a (xs ++ (b ∷ ys)) ≡ neighbours_from k a (xs ++ (b ∷ [])) ++ neighbours_from k b ys
from_split k a [] b ys = refl
from_split k a (x ∷ xs) b ys = ap (λ js. neighbours_at k a x ∷ js) (from_split k x xs b ys)

in_split : (k : ℕ) (xs : List Vertex) (b : Vertex) (ys : List Vertex) → neighbours k (xs ++ (b ∷ ys)) ≡ neighbours k (xs ++ (b ∷ [])) ++ neighbours_from k b ys
in_split k [] b ys = refl
in_split k (x ∷ xs) b ys = from_split k x xs b ys

abbrev pub BothHave : (Vertex → Type 0) → Neighbours → Type 0
BothHave P j = P j.from × P j.to

from_have : (P : Vertex → Type 0) (k : ℕ) (a : Vertex) (vs : List Vertex) → P a → AllByRecursion P vs → AllByRecursion (BothHave P) (neighbours_from k a vs)
from_have P k a [] h m = tt
from_have P k a (b ∷ vs) h m = ((h, m.0), from_have P k b vs m.0 m.1)

pub in_have : (P : Vertex → Type 0) (k : ℕ) (vs : List Vertex) → AllByRecursion P vs → AllByRecursion (BothHave P) (neighbours k vs)
in_have P k [] h = tt
in_have P k (a ∷ vs) h = from_have P k a vs h.0 h.1

-- ---- indexes on both sides of a vertex

others_left : (i : ℕ) (is js : List ℕ) → AreDistinct (is ++ (i ∷ js)) → AllByRecursion (λ j. j ≢ i) is
others_left i [] js h = tt
others_left i (j ∷ is) js h = ((all_right (λ m. j ≢ m) is (i ∷ js) h.0).0, others_left i is js h.1)

others_right : (i : ℕ) (is js : List ℕ) → AreDistinct (is ++ (i ∷ js)) → AllByRecursion (λ j. i ≢ j) js
others_right i [] js h = h.0
others_right i (j ∷ is) js h = others_right i is js h.1

-- ---- the corner's own pairs among all

pub record AreParted (arcs : List (List Vertex)) (c : ArcCorner) : Type 0 where
  pub a : Vertex
  pub p : Vertex
  pub d : Vertex
  pub front : List Neighbours
  pub back : List Neighbours
  pub at : c ≡ arc_corner_at c.arc a p d
  pub was : all_neighbours 0 arcs ≡ front ++ (neighbours_at c.arc a p ∷ (neighbours_at c.arc p d ∷ back))
  pub is : all_neighbours 0 (left_by arcs c) ≡ front ++ (neighbours_at c.arc a d ∷ back)
  pub before : AllByRecursion (λ n. is_pair_of c n ≡ false) front
  pub after : AllByRecursion (λ n. is_pair_of c n ≡ false) back

not_own : (c : ArcCorner) (j : Neighbours) → (j.from.index ≢ c.corner.index) × (j.to.index ≢ c.corner.index) → is_pair_of c j ≡ false
not_own c j h = and_right (j.arc == c.arc) ((j.from.index == c.corner.index) || (j.to.index == c.corner.index))
    (or_from (j.from.index == c.corner.index) (j.to.index == c.corner.index) (ne_eqb j.from.index c.corner.index h.0) (ne_eqb j.to.index c.corner.index h.1))

abbrev pub moved_neighbours : (ℕ → ℕ) → Neighbours → Neighbours
moved_neighbours g j = neighbours_at (g j.arc) j.from j.to

abbrev next_neighbours : Neighbours → Neighbours
next_neighbours = moved_neighbours suc

from_moved : (g : ℕ → ℕ) (k : ℕ) (a : Vertex) (vs : List Vertex) → neighbours_from (g k) a vs ≡ map (moved_neighbours g) (neighbours_from k a vs)
from_moved g k a [] = refl
from_moved g k a (b ∷ vs) = ap (λ js. neighbours_at (g k) a b ∷ js) (from_moved g k b vs)

pub in_moved : (g : ℕ → ℕ) (k : ℕ) (vs : List Vertex) → neighbours (g k) vs ≡ map (moved_neighbours g) (neighbours k vs)
in_moved g k [] = refl
in_moved g k (a ∷ vs) = from_moved g k a vs

later_neighbours : (k : ℕ) (arcs : List (List Vertex)) → all_neighbours (suc k) arcs ≡ map next_neighbours (all_neighbours k arcs)
later_neighbours k [] = refl
later_neighbours k (vs ∷ arcs) = ap (λ js. js ++ all_neighbours (suc (suc k)) arcs) (in_moved suc k vs) ∙ ap (λ js. map next_neighbours (neighbours k vs) ++ js) (later_neighbours (suc k) arcs)
    ∙ sym (map-append next_neighbours (neighbours k vs) (all_neighbours (suc k) arcs))

-- the number of their arc
from_arc : (k : ℕ) (a : Vertex) (vs : List Vertex) → AllByRecursion (λ j. j.arc ≡ k) (neighbours_from k a vs)
from_arc k a [] = tt
from_arc k a (b ∷ vs) = (refl, from_arc k b vs)

in_arc : (k : ℕ) (vs : List Vertex) → AllByRecursion (λ j. j.arc ≡ k) (neighbours k vs)
in_arc k [] = tt
in_arc k (a ∷ vs) = from_arc k a vs

-- a pair of another arc is no own one
other_arc : (c : ArcCorner) (j : Neighbours) → j.arc ≢ c.arc → is_pair_of c j ≡ false
other_arc c j h = ap (λ b. b && ((j.from.index == c.corner.index) || (j.to.index == c.corner.index))) (ne_eqb j.arc c.arc h)

past_all : (k : ℕ) (arcs : List (List Vertex)) → AllByRecursion (λ j. j.arc ≢ 0) (map next_neighbours (all_neighbours k arcs))
past_all k arcs = all_map (λ j. j.arc ≢ 0) next_neighbours (all_neighbours k arcs) (always (all_neighbours k arcs))
  where
    always : (js : List Neighbours) → AllByRecursion (λ j. suc j.arc ≢ 0) js
    always [] = tt
    always (j ∷ js) = ((λ e. omega (arith, e)), always js)

parted_at : (vs : List Vertex) (arcs : List (List Vertex)) (front : List Vertex) (a p d : Vertex) (back : List Vertex) → HasOwnIndexes vs → vs ≡ front ++ (a ∷ (p ∷ (d ∷ back))) →
    without p.index vs ≡ front ++ (a ∷ (d ∷ back)) → AreParted (vs ∷ arcs) (arc_corner_at 0 a p d)
parted_at vs arcs front a p d back own was is =
    let c : ArcCorner = arc_corner_at 0 a p d in
    let apart : AreDistinct (map (λ v. v.index) (front ++ (a ∷ [])) ++ (p.index ∷ map (λ v. v.index) (d ∷ back))) =
    subst (λ is. AreDistinct is) (map-append (λ v. v.index) (front ++ (a ∷ [])) (p ∷ (d ∷ back)))
    (subst HasOwnIndexes (was ∙ sym (append_assoc front (a ∷ []) (p ∷ (d ∷ back)))) own) in
    let left : AllByRecursion (λ v. v.index ≢ p.index) (front ++ (a ∷ [])) = all_of_map (λ j. j ≢ p.index) (λ v. v.index) (front ++ (a ∷ [])) (others_left p.index (map (λ v. v.index) (front ++ (a ∷ []))) (map (λ v. v.index) (d ∷ back)) apart) in
    let right : AllByRecursion (λ v. v.index ≢ p.index) (d ∷ back) = all_weaker (λ v. p.index ≢ v.index) (λ v. v.index ≢ p.index) (λ v n e. n (sym e)) (d ∷ back)
    (all_of_map (λ j. p.index ≢ j) (λ v. v.index) (d ∷ back) (others_right p.index (map (λ v. v.index) (front ++ (a ∷ []))) (map (λ v. v.index) (d ∷ back)) apart)) in
    record {
      a = a;
      p = p;
      d = d;
      at = refl;
      front = neighbours 0 (front ++ (a ∷ []));
      back = neighbours_from 0 d back ++ all_neighbours 1 arcs;
      was = ap (λ ws. neighbours 0 ws ++ all_neighbours 1 arcs) was ∙ ap (λ js. js ++ all_neighbours 1 arcs) (in_split 0 front a (p ∷ (d ∷ back)))
          ∙ append_assoc (neighbours 0 (front ++ (a ∷ []))) (neighbours_at 0 a p ∷ (neighbours_at 0 p d ∷ neighbours_from 0 d back)) (all_neighbours 1 arcs);
      is = ap (λ ws. neighbours 0 ws ++ all_neighbours 1 arcs) is ∙ ap (λ js. js ++ all_neighbours 1 arcs) (in_split 0 front a (d ∷ back))
          ∙ append_assoc (neighbours 0 (front ++ (a ∷ []))) (neighbours_at 0 a d ∷ neighbours_from 0 d back) (all_neighbours 1 arcs);
      before = all_weaker (BothHave (λ v. v.index ≢ p.index)) (λ j. is_pair_of c j ≡ false) (λ j h. not_own c j h) (neighbours 0 (front ++ (a ∷ []))) (in_have (λ v. v.index ≢ p.index) 0 (front ++ (a ∷ [])) left);
      after = all_append (λ j. is_pair_of c j ≡ false) (neighbours_from 0 d back) (all_neighbours 1 arcs)
          (all_weaker (BothHave (λ v. v.index ≢ p.index)) (λ j. is_pair_of c j ≡ false) (λ j h. not_own c j h) (neighbours_from 0 d back) (from_have (λ v. v.index ≢ p.index) 0 d back right.0 right.1))
          (subst (AllByRecursion (λ j. is_pair_of c j ≡ false)) (sym (later_neighbours 0 arcs)) (all_weaker (λ j. j.arc ≢ 0) (λ j. is_pair_of c j ≡ false) (λ j h. other_arc c j h) (map next_neighbours (all_neighbours 0 arcs)) (past_all 0 arcs)));
    }

parted_first : (vs : List Vertex) (arcs : List (List Vertex)) (c : ArcCorner) → HasOwnIndexes vs → IsTaken 0 vs c → AreParted (vs ∷ arcs) c
parted_first vs arcs c own t = subst (AreParted (vs ∷ arcs)) (sym t.at) (parted_at vs arcs t.front t.a t.p t.d t.back own t.was t.is)

own_later : (c : ArcCorner) (j : Neighbours) → is_pair_of (in_next_arc c) (next_neighbours j) ≡ is_pair_of c j
own_later c j = let h : (suc j.arc == suc c.arc) ≡ (j.arc == c.arc) = grind (arith, nat_tests) in ap (λ b. b && ((j.from.index == c.corner.index) || (j.to.index == c.corner.index))) h

none_own : (c : ArcCorner) (js : List Neighbours) → AllByRecursion (λ j. is_pair_of c j ≡ false) js → AllByRecursion (λ j. is_pair_of (in_next_arc c) j ≡ false) (map next_neighbours js)
none_own c js h = all_map (λ j. is_pair_of (in_next_arc c) j ≡ false) next_neighbours js (all_weaker (λ j. is_pair_of c j ≡ false) (λ j. is_pair_of (in_next_arc c) (next_neighbours j) ≡ false) (λ j e. own_later c j ∙ e) js h)

parted_later : (vs : List Vertex) (arcs : List (List Vertex)) (c : ArcCorner) → AreParted arcs c → AreParted (vs ∷ arcs) (in_next_arc c)
parted_later vs arcs c r =
    let zero_not : (j : Neighbours) → j.arc ≡ 0 → j.arc ≢ suc c.arc = λ j e n. omega (arith, e, n) in
    record {
      a = r.a;
      p = r.p;
      d = r.d;
      at = ap in_next_arc r.at;
      front = neighbours 0 vs ++ map next_neighbours r.front;
      back = map next_neighbours r.back;
      was = ap (λ js. neighbours 0 vs ++ js) (later_neighbours 0 arcs ∙ ap (map next_neighbours) r.was ∙ map-append next_neighbours r.front (neighbours_at c.arc r.a r.p ∷ (neighbours_at c.arc r.p r.d ∷ r.back)))
          ∙ sym (append_assoc (neighbours 0 vs) (map next_neighbours r.front) (neighbours_at (suc c.arc) r.a r.p ∷ (neighbours_at (suc c.arc) r.p r.d ∷ map next_neighbours r.back)));
      is = ap (λ js. neighbours 0 vs ++ js) (later_neighbours 0 (left_by arcs c) ∙ ap (map next_neighbours) r.is ∙ map-append next_neighbours r.front (neighbours_at c.arc r.a r.d ∷ r.back))
          ∙ sym (append_assoc (neighbours 0 vs) (map next_neighbours r.front) (neighbours_at (suc c.arc) r.a r.d ∷ map next_neighbours r.back));
      before = all_append (λ j. is_pair_of (in_next_arc c) j ≡ false) (neighbours 0 vs) (map next_neighbours r.front)
          (all_weaker (λ j. j.arc ≡ 0) (λ j. is_pair_of (in_next_arc c) j ≡ false) (λ j e. other_arc (in_next_arc c) j (zero_not j e)) (neighbours 0 vs) (in_arc 0 vs)) (none_own c r.front r.before);
      after = none_own c r.back r.after;
    }

pub all_parted : (arcs : List (List Vertex)) → AllByRecursion HasOwnIndexes arcs → AllByRecursion (AreParted arcs) (all_corners 0 arcs)
all_parted [] h = tt
all_parted (vs ∷ arcs) h =
    first_and_later (AreParted (vs ∷ arcs)) vs arcs (all_weaker (IsTaken 0 vs) (AreParted (vs ∷ arcs)) (λ c t. parted_first vs arcs c h.0 t) (arc_corners 0 vs) (all_taken 0 vs h.0))
    (all_weaker (AreParted arcs) (λ c. AreParted (vs ∷ arcs) (in_next_arc c)) (λ c r. parted_later vs arcs c r) (all_corners 0 arcs) (all_parted arcs h.1))

-- ---- their places

abbrev pub AreAmong : List Place → Neighbours → Type 0
AreAmong xs n = In (place_at n.arc n.from) xs × In (place_at n.arc n.to) xs

among_in : (k : ℕ) (vs : List Vertex) → AllByRecursion (AreAmong (map (place_at k) vs)) (neighbours k vs)
among_in k vs = all_two (λ n. n.arc ≡ k) (BothHave (λ v. In (place_at k v) (map (place_at k) vs))) (AreAmong (map (place_at k) vs))
    (λ n e h. (subst (λ (i : ℕ). In (place_at i n.from) (map (place_at k) vs)) (sym e) h.0, subst (λ (i : ℕ). In (place_at i n.to) (map (place_at k) vs)) (sym e) h.1))
    (neighbours k vs) (in_arc k vs) (in_have (λ v. In (place_at k v) (map (place_at k) vs)) k vs (all_of_map (λ x. In x (map (place_at k) vs)) (place_at k) vs (all_of (λ x. In x (map (place_at k) vs)) (map (place_at k) vs) (λ x m. m))))

pub all_among : (k : ℕ) (arcs : List (List Vertex)) → AllByRecursion (AreAmong (places k arcs)) (all_neighbours k arcs)
all_among k [] = tt
all_among k (vs ∷ arcs) = all_append (AreAmong (places k (vs ∷ arcs))) (neighbours k vs) (all_neighbours (suc k) arcs)
    (all_weaker (AreAmong (map (place_at k) vs)) (AreAmong (places k (vs ∷ arcs))) (λ n h. (in_left (place_at n.arc n.from) (map (place_at k) vs) (places (suc k) arcs) h.0, in_left (place_at n.arc n.to) (map (place_at k) vs) (places (suc k) arcs) h.1)) (neighbours k vs) (among_in k vs))
    (all_weaker (AreAmong (places (suc k) arcs)) (AreAmong (places k (vs ∷ arcs))) (λ n h. (in_right (place_at n.arc n.from) (map (place_at k) vs) (places (suc k) arcs) h.0, in_right (place_at n.arc n.to) (map (place_at k) vs) (places (suc k) arcs) h.1)) (all_neighbours (suc k) arcs) (all_among (suc k) arcs))

-- ---- their indexes

-- the indexes of an arc's vertices rise
abbrev pub Rises : List Vertex → Type 0
Rises vs = AreRising (map (λ v. v.index) vs)

abbrev pub Ascends : Neighbours → Type 0
Ascends n = n.from.index < n.to.index

ascends_from : (k : ℕ) (a : Vertex) (vs : List Vertex) → Rises (a ∷ vs) → AllByRecursion Ascends (neighbours_from k a vs)
ascends_from k a [] h = tt
ascends_from k a (b ∷ vs) h = (h.0.0, ascends_from k b vs h.1)

ascends_in : (k : ℕ) (vs : List Vertex) → Rises vs → AllByRecursion Ascends (neighbours k vs)
ascends_in k [] h = tt
ascends_in k (a ∷ vs) h = ascends_from k a vs h

pub all_ascend : (k : ℕ) (arcs : List (List Vertex)) → AllByRecursion Rises arcs → AllByRecursion Ascends (all_neighbours k arcs)
all_ascend k [] h = tt
all_ascend k (vs ∷ arcs) h = all_append Ascends (neighbours k vs) (all_neighbours (suc k) arcs) (ascends_in k vs h.0) (all_ascend (suc k) arcs h.1)
