-- Rings that are counted over arcs are so while corners go.
use Rattle.std.proofs.Common.{◌≡◌, ℕ, zero, suc, ℤ, pos, negsuc, ◌+◌, ◌-◌, ◌<◌, ◌≤◌, Bool, true, false, not, ◌||◌, ◌&&◌, List, [], ◌∷◌, ◌++◌, map, length, length-append, replicate, reverse, Some, slice_index, slice_index_or, slice_set, refl, ap, sym, ◌∙◌, subst, ◌⊎◌, inl, inr, arith}
use mathlib.Core.List.{reverse_aux}
use Rattle.std.specs.List.{AllByRecursion, list_all}
use Rattle.std.proofs.lemmas.Bool.{both_ways, cases_lt}
use Rattle.std.proofs.lemmas.List.{get_or_append_left, get_or-append_right, get_or-replicate, get_or_past, length-replicate, map-append, nil_from_length}
use Rattle.owned_values.proofs.Elements.{all_weaker, all_append, all_map, each_of}
use Rattle.elimination_meaning.specs.Elimination.{Vertex}
use Rattle.geometry.specs.Joins.{at, or_empty, arc_at, first_of, last_of, Meet}
use Rattle.geometry.specs.Lists.{joined}
use Rattle.geometry.specs.Points.{Point}
use Rattle.guarded_meaning.specs.Arcs.{ArcCorner, all_corners, arc_corners, HasOwnIndexes, left_by, points_of, without_at}
use Rattle.guarded_meaning.specs.Guards.{is_long, keeps_rings, uses}
use Rattle.guarded_meaning.specs.Lists.{EachTo, HasEndsOf, IsThinned, last_after}
use Rattle.guarded_meaning.proofs.Holders.{never_again}
use Rattle.guarded_meaning.proofs.Kept.{points_numbered}
use Rattle.guarded_meaning.proofs.Removal.{IsTaken, all_taken, in_next_arc, later_arcs}
use Rattle.guarded_meaning.proofs.Thinned.{IsSound, each_map, each_same, sound_step}
use Rattle.guarded_reduction.specs.Entries.{AreBelow}
use Rattle.guarded_reduction.specs.First.{first_linked}
use Rattle.guarded_reduction.specs.Indexes.{point_at}
use Rattle.guarded_reduction.specs.Keeping.{AllMeet, IsKeeping, IsKept}
use Rattle.guarded_reduction.specs.Linking.{Linked, IsCorner, IsShowing, IsWhole, fixed_to, is_fixed, unlinked}
use Rattle.guarded_reduction.specs.Moves.{Counted, IsCounted, counted_without, keeps_all, lost, lost_at, moves, moves_without, owner_at, owners_of, stays}
use Rattle.guarded_reduction.specs.Numbers.{HasPlace, left_arcs, number}
use Rattle.guarded_reduction.specs.States.{IsFixing}
use Rattle.guarded_reduction.proofs.Moves.{last_is, long_is, moves_less}
use Rattle.guarded_reduction.proofs.Numbers.{same_number}
use Rattle.guarded_reduction.proofs.Showing.{IsFound, IsShownCorner, found, own_left, shown_corner}
use Rattle.guarded_reduction.proofs.Starts.{all_left}
use Rattle.guarded_reduction.proofs.Unlinking.{left_is}

-- ---- the arcs of places

pub owners_many : (k : ℕ) (arcs : List (List Point)) → length (owners_of k arcs) ≡ length (joined arcs)
owners_many k [] = refl
owners_many k (ps ∷ arcs) =
    let h = owners_many (suc k) arcs in
    omega (arith, h, length-append (replicate (length ps) k) (owners_of (suc k) arcs), length-replicate (length ps) k, length-append ps (joined arcs))

pub owner_is : (j : ℕ) (arcs : List (List Point)) (k i : ℕ) → HasPlace arcs k i → slice_index (owners_of j arcs) (number arcs k i) ≡ j + k
owner_is j [] k i h = absurd h
owner_is j (ps ∷ arcs) zero i h =
    let e : j ≡ j + 0 = omega arith in
    get_or_append_left (replicate (length ps) j) (owners_of (suc j) arcs) 0 i (omega (arith, h, length-replicate (length ps) j)) ∙ get_or-replicate (length ps) i j 0 h ∙ e
owner_is j (ps ∷ arcs) (suc k) i h =
    let z : (length ps + number arcs k i) - length ps ≡ number arcs k i = omega arith in
    let e : suc j + k ≡ j + suc k = omega arith in
    get_or-append_right (replicate (length ps) j) (owners_of (suc j) arcs) (length ps) (length ps + number arcs k i) 0 (length-replicate (length ps) j) (omega arith)
    ∙ ap (λ n. slice_index (owners_of (suc j) arcs) n) z ∙ owner_is (suc j) arcs k i h ∙ e

-- ---- a corner that goes

-- the arc of the corner moves on less often, and the others as often
abbrev Loses : List (List Vertex) → ArcCorner → Type 0
Loses arcs c = map moves (points_of (left_by arcs c)) ≡ slice_set (map moves (points_of arcs)) c.arc (slice_index (map moves (points_of arcs)) c.arc - lost c.before c.corner.point c.after)

loses_in : (front back : List Vertex) (a p d : Vertex) →
    moves (map (λ v. v.point) (front ++ (a ∷ (d ∷ back)))) ≡ moves (map (λ v. v.point) (front ++ (a ∷ (p ∷ (d ∷ back))))) - lost a.point p.point d.point
loses_in front back a p d =
    ap moves (map-append (λ (v : Vertex). v.point) front (a ∷ (d ∷ back))) ∙ moves_less (map (λ v. v.point) front) (map (λ v. v.point) back) a.point p.point d.point
    ∙ ap (λ ps. moves ps - lost a.point p.point d.point) (sym (map-append (λ (v : Vertex). v.point) front (a ∷ (p ∷ (d ∷ back)))))

loses_first : (vs : List Vertex) (arcs : List (List Vertex)) (c : ArcCorner) → IsTaken 0 vs c → Loses (vs ∷ arcs) c
loses_first vs arcs c t = subst (Loses (vs ∷ arcs)) (sym t.at)
    (ap (λ n. n ∷ map moves (points_of arcs)) (ap (λ us. moves (map (λ v. v.point) us)) t.is ∙ loses_in t.front t.back t.a t.p t.d ∙ ap (λ us. moves (map (λ v. v.point) us) - lost t.a.point t.p.point t.d.point) (sym t.was)))

loses_later : (vs : List Vertex) (arcs : List (List Vertex)) (c : ArcCorner) → Loses arcs c → Loses (vs ∷ arcs) (in_next_arc c)
loses_later vs arcs c h = ap (λ ns. moves (map (λ v. v.point) vs) ∷ ns) h

all_lose : (arcs : List (List Vertex)) → AllByRecursion HasOwnIndexes arcs → AllByRecursion (Loses arcs) (all_corners 0 arcs)
all_lose [] h = tt
all_lose (vs ∷ arcs) h =
    all_append (Loses (vs ∷ arcs)) (arc_corners 0 vs) (all_corners 1 arcs)
    (all_weaker (IsTaken 0 vs) (Loses (vs ∷ arcs)) (λ c t. loses_first vs arcs c t) (arc_corners 0 vs) (all_taken 0 vs h.0))
    (subst (AllByRecursion (Loses (vs ∷ arcs))) (sym (later_arcs 0 arcs)) (all_map (Loses (vs ∷ arcs)) in_next_arc (all_corners 0 arcs)
    (all_weaker (Loses arcs) (λ c. Loses (vs ∷ arcs) (in_next_arc c)) (λ c r. loses_later vs arcs c r) (all_corners 0 arcs) (all_lose arcs h.1))))

-- ---- the ends of arcs

abbrev EndsAlike : List Point → List Point → Type 0
EndsAlike xs ys = (first_of xs ≡ first_of ys) × (last_of xs ≡ last_of ys)

ends_alike : (xs ys : List Point) → HasEndsOf xs ys → EndsAlike xs ys
ends_alike [] [] h = (refl, refl)
ends_alike [] (y ∷ ys) h = absurd h
ends_alike (x ∷ xs) [] h = absurd h
ends_alike (x ∷ xs) (y ∷ ys) h = (ap Some h.0, last_is x xs ∙ ap Some h.1 ∙ sym (last_is y ys))

first_onto : (y : Point) (xs ys : List Point) → first_of (reverse_aux xs (y ∷ ys)) ≡ Some (last_after y xs)
first_onto y [] ys = refl
first_onto y (x ∷ xs) ys = first_onto x xs (y ∷ ys)

last_onto : (y : Point) (xs ys : List Point) → last_of (reverse_aux xs (y ∷ ys)) ≡ last_of (y ∷ ys)
last_onto y [] ys = refl
last_onto y (x ∷ xs) ys = last_onto x xs (y ∷ ys)

first_back : (xs : List Point) → first_of (reverse xs) ≡ last_of xs
first_back [] = refl
first_back (x ∷ xs) = first_onto x xs [] ∙ sym (last_is x xs)

last_back : (xs : List Point) → last_of (reverse xs) ≡ first_of xs
last_back [] = refl
last_back (x ∷ xs) = last_onto x xs []

alike_at : (n : ℕ) (xss yss : List (List Point)) → EachTo IsThinned xss yss → EndsAlike (or_empty (at xss n)) (or_empty (at yss n))
alike_at n [] [] h = (refl, refl)
alike_at n [] (ys ∷ yss) h = absurd h
alike_at n (xs ∷ xss) [] h = absurd h
alike_at zero (xs ∷ xss) (ys ∷ yss) h = ends_alike xs ys h.0.1
alike_at (suc n) (xs ∷ xss) (ys ∷ yss) h = alike_at n xss yss h.1

alike_arc : (r : ℤ) (xss yss : List (List Point)) → EachTo IsThinned xss yss → EndsAlike (arc_at xss r) (arc_at yss r)
alike_arc (pos n) xss yss h = alike_at n xss yss h
alike_arc (negsuc n) xss yss h =
    let e = alike_at n xss yss h in
    (first_back (or_empty (at xss n)) ∙ e.1 ∙ sym (first_back (or_empty (at yss n))), last_back (or_empty (at xss n)) ∙ e.0 ∙ sym (last_back (or_empty (at yss n))))

still_meet : (refs : List ℤ) (xss yss : List (List Point)) → EachTo IsThinned xss yss → Meet (map (arc_at yss) refs) → Meet (map (arc_at xss) refs)
still_meet [] xss yss h m = tt
still_meet (r ∷ []) xss yss h m = tt
still_meet (r ∷ (q ∷ refs)) xss yss h m = ((alike_arc r xss yss h).1 ∙ m.0 ∙ sym (alike_arc q xss yss h).0, still_meet (q ∷ refs) xss yss h m.1)

all_still_meet : (rings : List (List ℤ)) (xss yss : List (List Point)) → EachTo IsThinned xss yss → AllMeet rings yss → AllMeet rings xss
all_still_meet [] xss yss h m = tt
all_still_meet (refs ∷ rings) xss yss h m = (still_meet refs xss yss h m.0, all_still_meet rings xss yss h m.1)

-- ---- rings

-- each ring of four positions is one whose arcs move on three times
same_rings : (rings : List (List ℤ)) (k l : ℕ) (arcs : List (List Point)) (ms : List ℕ) → k ≡ l → ms ≡ map moves arcs → AllMeet rings arcs →
    list_all (λ refs. not (uses k refs) || is_long arcs refs) rings ≡ list_all (λ refs. not (uses l refs) || stays ms refs) rings
same_rings [] k l arcs ms e f m = refl
same_rings (refs ∷ rings) k l arcs ms e f m =
    ap (λ b. (not (uses k refs) || b) && list_all (λ rs. not (uses k rs) || is_long arcs rs) rings) (long_is arcs refs m.0 ∙ ap (λ ns. stays ns refs) (sym f))
    ∙ ap (λ b. (not (uses k refs) || stays ms refs) && b) (same_rings rings k l arcs ms e f m.1)
    ∙ ap (λ i. (not (uses i refs) || stays ms refs) && list_all (λ rs. not (uses l rs) || stays ms rs) rings) e

-- the rings are asked by the arc and the index of a corner alone
same_place : (rings : List (List ℤ)) (arcs : List (List Vertex)) (c d : ArcCorner) → d.arc ≡ c.arc → d.corner.index ≡ c.corner.index → keeps_rings rings arcs d ≡ keeps_rings rings arcs c
unfolding keeps_rings
same_place rings arcs c d e f = ap (λ k. asked k d.corner.index) e ∙ ap (asked c.arc) f
  where
    asked : ℕ → ℕ → Bool
    asked k i = list_all (λ refs. not (uses k refs) || is_long (points_of (without_at k i arcs)) refs) rings

kept_of_none : (rings : List (List ℤ)) (arcs : List (List Vertex)) (d : ArcCorner) → rings ≡ [] → keeps_rings rings arcs d ≡ true
unfolding keeps_rings
kept_of_none rings arcs d e = ap (list_all (λ refs. not (uses d.arc refs) || is_long (points_of (left_by arcs d)) refs)) e

all_of_none : (s : Linked) (z : ℕ) (g : Counted) → g.rings ≡ [] → keeps_all s z g ≡ true
unfolding keeps_all
all_of_none s z g e = ap (list_all (λ refs. not (uses (owner_at g z) refs) || stays (moves_without s z g) refs)) e

module _ (arcs : List (List Point)) (rings : List (List ℤ)) (s : Linked) (show : IsShowing arcs s) (g : Counted) (keeping : IsKeeping arcs rings s g) where
  abbrev now : List (List Vertex)
  now = left_arcs arcs s.left

  module _ (z : ℕ) (corner : IsCorner s z) where
    one : IsFound arcs s show z
    one = found arcs s show z corner

    abbrev left : List (List Point)
    left = points_of (left_by now one.corner)

    thinned : EachTo IsThinned left (points_of now)
    thinned = each_map (λ v. v.point) (left_by now one.corner) now
        (each_of (λ c. true ≡ true → IsSound now (left_by now c)) (all_corners 0 now) one.corner (sound_step (λ arcs c. true) now now (each_same now, own_left arcs s.left)) one.there refl).0

    meet_left : AllMeet rings left
    meet_left = all_still_meet rings left (points_of now) thinned keeping.meet

    lost_is : lost one.corner.before one.corner.corner.point one.corner.after ≡ lost_at s z
    lost_is =
        let own : ℕ = number arcs one.corner.arc one.corner.corner.index in
        let x : IsShownCorner arcs s one.corner = shown_corner arcs s show one.corner one.there in
        ap (λ p. lost p one.corner.corner.point one.corner.after) x.before ∙ ap (λ p. lost (point_at s.positions (slice_index s.befores own)) p one.corner.after) x.point
        ∙ ap (λ p. lost (point_at s.positions (slice_index s.befores own)) (point_at s.positions own) p) x.after ∙ ap (lost_at s) one.number_is

    module _ (counted : IsCounted arcs (points_of now) g) where
      owner : owner_at g z ≡ one.corner.arc
      owner =
          let x : IsShownCorner arcs s one.corner = shown_corner arcs s show one.corner one.there in
          ap (λ os. slice_index os z) counted.owners ∙ ap (slice_index (owners_of 0 arcs)) (sym one.number_is) ∙ owner_is 0 arcs one.corner.arc one.corner.corner.index x.there ∙ zero_first one.corner.arc
        where
          zero_first : (k : ℕ) → 0 + k ≡ k
          zero_first k = omega arith

      moves_left : moves_without s z g ≡ map moves left
      moves_left =
          ap (λ ms. slice_set ms (owner_at g z) (slice_index ms (owner_at g z) - lost_at s z)) counted.moves
          ∙ ap (λ k. slice_set (map moves (points_of now)) k (slice_index (map moves (points_of now)) k - lost_at s z)) owner
          ∙ ap (λ n. slice_set (map moves (points_of now)) one.corner.arc (slice_index (map moves (points_of now)) one.corner.arc - n)) (sym lost_is)
          ∙ sym (each_of (Loses now) (all_corners 0 now) one.corner (all_lose now (own_left arcs s.left)) one.there)

      kept_counted : keeps_rings rings now one.corner ≡ keeps_all s z g
      unfolding keeps_rings keeps_all
      kept_counted = same_rings rings one.corner.arc (owner_at g z) left (moves_without s z g) (sym owner) moves_left meet_left
          ∙ ap (list_all (λ refs. not (uses (owner_at g z) refs) || stays (moves_without s z g) refs)) (sym keeping.rings_are)

    pub kept_is : IsKept arcs rings s.left z (keeps_all s z g)
    kept_is d there e = on keeping.counted
      where
        on : (length rings ≡ 0) ⊎ IsCounted arcs (points_of now) g → keeps_rings rings now d ≡ keeps_all s z g
        on (inl n) = kept_of_none rings now d (nil_from_length rings n) ∙ sym (all_of_none s z g (keeping.rings_are ∙ nil_from_length rings n))
        on (inr k) =
            let x : IsShownCorner arcs s one.corner = shown_corner arcs s show one.corner one.there in
            let r = same_number arcs d.arc d.corner.index one.corner.arc one.corner.corner.index there x.there (e ∙ sym one.number_is) in
            same_place rings now one.corner d r.0 r.1 ∙ kept_counted k

    -- what is left when the corner goes
    left_next : IsWhole s → left_arcs arcs (unlinked z s).left ≡ left_by now one.corner
    left_next whole = ap (λ y. left_arcs arcs (slice_set s.left y false)) (sym one.number_is) ∙ left_is arcs s whole show one.corner one.there

    pub keeping_next : IsWhole s → IsKeeping arcs rings (unlinked z s) (counted_without s z g)
    unfolding is_fixed
    keeping_next whole = record {
      rings_are = keeping.rings_are;
      counted = on keeping.counted;
      meet = subst (λ vs. AllMeet rings (points_of vs)) (sym (left_next whole)) meet_left;
      fixed = λ v f d there e. subst (λ vs. keeps_rings rings vs d ≡ false) (sym (left_next whole)) (never_again rings now one.corner d (keeping.fixed v f d there e));
    }
      where
        on : (length rings ≡ 0) ⊎ IsCounted arcs (points_of now) g → (length rings ≡ 0) ⊎ IsCounted arcs (points_of (left_arcs arcs (unlinked z s).left)) (counted_without s z g)
        on (inl n) = inl n
        on (inr k) = inr (record { owners = k.owners; moves = moves_left k ∙ ap (λ vs. map moves (points_of vs)) (sym (left_next whole)) })

  -- places that stay for good change nothing else
  pub keeping_fixed : (new : Linked) → IsFixing s g new → IsKeeping arcs rings new g
  keeping_fixed new f = subst (λ (x : Linked). IsKeeping arcs rings x g) (sym f.same)
      (record { rings_are = keeping.rings_are; counted = keeping.counted; meet = keeping.meet; fixed = λ v h. on v (f.fixed v (was v h)) })
    where
      was : (v : ℕ) → is_fixed (fixed_to new.fixed s) v ≡ true → is_fixed new v ≡ true
      was v h = subst (λ (x : Linked). is_fixed x v ≡ true) (sym f.same) h

      on : (v : ℕ) → (is_fixed s v ≡ true) ⊎ (IsCorner s v × (keeps_all s v g ≡ false)) → IsKept arcs rings s.left v false
      on v (inl h) = keeping.fixed v h
      on v (inr h) = λ d there e. kept_is v h.0 d there e ∙ h.1

-- ---- at first

pub first_keeping : (b : Bool) (arcs : List (List Point)) (rings : List (List ℤ)) (s : Linked) (g : Counted) → s ≡ first_linked b arcs → g.rings ≡ rings → (length rings ≡ 0) ⊎ IsCounted arcs arcs g → AllMeet rings arcs → IsKeeping arcs rings s g
unfolding is_fixed
first_keeping b arcs rings s g is are counted meet = subst (λ (x : Linked). IsKeeping arcs rings x g) (sym is) (record {
  rings_are = are;
  counted = subst (λ vs. (length rings ≡ 0) ⊎ IsCounted arcs vs g) (sym whole) counted;
  meet = subst (AllMeet rings) (sym whole) meet;
  fixed = λ v h. absurd (both_ways (is_fixed (first_linked b arcs) v) (none_fixed v) h);
})
  where
    whole : points_of (left_arcs arcs (first_linked b arcs).left) ≡ arcs
    whole = ap points_of (all_left b arcs) ∙ points_numbered arcs

    none_fixed : (v : ℕ) → is_fixed (first_linked b arcs) v ≡ false
    none_fixed v = on (cases_lt v (length (joined arcs)))
      where
        on : (v < length (joined arcs)) ⊎ (length (joined arcs) ≤ v) → slice_index_or (replicate (length (joined arcs)) false) v false ≡ false
        on (inl h) = get_or-replicate (length (joined arcs)) v false false h
        on (inr h) = get_or_past (replicate (length (joined arcs)) false) v false (omega (arith, h, length-replicate (length (joined arcs)) false))

-- ---- from step to step

pub owners_at : (arcs : List (List Point)) (rings : List (List ℤ)) (s : Linked) (g : Counted) → IsShowing arcs s → IsKeeping arcs rings s g → (length g.rings ≡ 0) ⊎ (length g.owners ≡ length s.positions)
owners_at arcs rings s g show keeping = on keeping.counted
  where
    on : (length rings ≡ 0) ⊎ IsCounted arcs (points_of (left_arcs arcs s.left)) g → (length g.rings ≡ 0) ⊎ (length g.owners ≡ length s.positions)
    on (inl n) = inl (ap length keeping.rings_are ∙ n)
    on (inr k) = inr (ap length k.owners ∙ owners_many 0 arcs ∙ sym (ap length show.positions))

-- places that stay for good change nothing else
pub record IsStill (arcs : List (List Point)) (rings : List (List ℤ)) (old : Linked) (g : Counted) (new : Linked) : Type 0 where
  pub showing : IsShowing arcs new
  pub keeping : IsKeeping arcs rings new g
  pub flag : new.no_crossings ≡ old.no_crossings
  pub left : new.left ≡ old.left

pub fixed_still : (arcs : List (List Point)) (rings : List (List ℤ)) (s : Linked) (show : IsShowing arcs s) (g : Counted) → IsKeeping arcs rings s g → (new : Linked) → IsFixing s g new → IsStill arcs rings s g new
fixed_still arcs rings s show g keeping new f = record {
  showing = subst (IsShowing arcs) (sym f.same) (record { positions = show.positions; shows = show.shows; only = show.only });
  keeping = keeping_fixed arcs rings s show g keeping new f;
  flag = ap (λ (x : Linked). x.no_crossings) f.same;
  left = ap (λ (x : Linked). x.left) f.same;
}

pub still_below : (s : Linked) (g : Counted) (new : Linked) → IsFixing s g new → AreBelow s → AreBelow new
still_below s g new f h = subst AreBelow (sym f.same) (λ v k. h v (record { within = k.within; left = k.left; before = k.before; after = k.after }))

-- the corner at the place goes, and the rings are counted without it
pub record IsGoing (arcs : List (List Point)) (rings : List (List ℤ)) (s : Linked) (old new : Counted) (z : ℕ) : Type 0 where
  pub stay : IsKept arcs rings s.left z true
  pub keeping : IsKeeping arcs rings (unlinked z s) new

pub going : (arcs : List (List Point)) (rings : List (List ℤ)) (s : Linked) (show : IsShowing arcs s) (old new : Counted) → IsKeeping arcs rings s old → IsWhole s → (z : ℕ) → IsCorner s z →
    keeps_all s z old ≡ true → new ≡ counted_without s z old → IsGoing arcs rings s old new z
going arcs rings s show old new keeping whole z corner e is = record {
  stay = λ d there k. kept_is arcs rings s show old keeping z corner d there k ∙ e;
  keeping = subst (IsKeeping arcs rings (unlinked z s)) (sym is) (keeping_next arcs rings s show old keeping z corner whole);
}
