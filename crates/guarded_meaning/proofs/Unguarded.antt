-- Where everything may go, each arc is reduced by itself.
use Rattle.std.proofs.Common.{◌≡◌, ℕ, zero, suc, ◌+◌, ◌<◌, ◌≤◌, Bool, true, false, nat_lt, List, [], ◌∷◌, length, map, Option, Some, None, refl, ap, sym, ◌∙◌, subst, if◌then◌else◌, arith}
use Rattle.guarded_meaning.proofs.Names.{nat_tests, length-append, filter-append, filter_agree, AllByRecursion, filter, holds_of_chosen, chosen_of, joined, map_some, Point, Holds, sub_filter, sub_all, Vertex, Corner, corner_at, corners, corners_from, is_before, lesser, least, without, without_under, next, eliminate, numbered, reduced, reduce, ArcCorner, arc_corners_from, arc_corners, all_corners, without_at, left_by, points_of, earlier, first_corner, goes_before, Guard, goes, eliminate_arcs, reduced_arcs, reduce_arcs, guarded_by, keeps_rings, UnguardedLaw, UnguardedIndexLaw}
use Rattle.elimination_meaning.proofs.Enough.{next_shorter, length_numbered}
use Rattle.elimination_meaning.proofs.Turned.{go_on}
use Rattle.guarded_meaning.proofs.Kept.{first_holds}
use Rattle.guarded_meaning.proofs.Lists.{filter_map}
use Rattle.guarded_meaning.proofs.Order.{first_append, first_next, corner_of, least_first}
use Rattle.guarded_meaning.proofs.Removal.{in_next_arc, later_arcs}

-- ---- the corners of an arc

corners_from_are : (k : ℕ) (a b : Vertex) (vs : List Vertex) → map corner_of (arc_corners_from k a b vs) ≡ corners_from a b vs
corners_from_are k a b [] = refl
corners_from_are k a b (c ∷ vs) = ap (λ cs. corner_at a b c ∷ cs) (corners_from_are k b c vs)

corners_are : (k : ℕ) (vs : List Vertex) → map corner_of (arc_corners k vs) ≡ corners vs
corners_are k [] = refl
corners_are k (a ∷ []) = refl
corners_are k (a ∷ (b ∷ vs)) = corners_from_are k a b vs

arcs_from_are : (k : ℕ) (a b : Vertex) (vs : List Vertex) → AllByRecursion (λ c. c.arc ≡ k) (arc_corners_from k a b vs)
arcs_from_are k a b [] = tt
arcs_from_are k a b (c ∷ vs) = (refl, arcs_from_are k b c vs)

pub arcs_are : (k : ℕ) (vs : List Vertex) → AllByRecursion (λ c. c.arc ≡ k) (arc_corners k vs)
arcs_are k [] = tt
arcs_are k (a ∷ []) = tt
arcs_are k (a ∷ (b ∷ vs)) = arcs_from_are k a b vs

module _ (t : ℕ) where
  abbrev under : Corner → Bool
  under c = nat_lt c.area t

  abbrev arc_under : ArcCorner → Bool
  arc_under c = nat_lt c.corner.area t

  abbrev kept_under : Option Corner → Option Corner
  kept_under None = None
  kept_under (Some c) = if nat_lt c.area t then Some c else None

  less_first : (c d : Corner) → d.area < c.area → is_before d c ≡ true
  unfolding is_before
  less_first c d h = grind (arith, nat_tests)

  more_last : (c d : Corner) → c.area < d.area → is_before d c ≡ false
  unfolding is_before
  more_last c d h = grind (arith, nat_tests)

  kept_lesser : (c : Corner) (o : Option Corner) → (if nat_lt c.area t then lesser (Some c) (kept_under o) else kept_under o) ≡ kept_under (lesser (Some c) o)
  kept_lesser c o = grind (arith, nat_tests, less_first, more_last)

  least_under : (cs : List Corner) → least (filter under cs) ≡ kept_under (least cs)
  least_under [] = refl
  least_under (c ∷ cs) = sym (chosen_of least (nat_lt c.area t) (c ∷ filter under cs) (filter under cs))
      ∙ ap (λ o. if nat_lt c.area t then lesser (Some c) o else o) (least_under cs) ∙ kept_lesser c (least cs)

  without_kept : (vs : List Vertex) (o : Option Corner) → without_under t vs o ≡ map_some (λ c. without c.index vs) (kept_under o)
  without_kept vs None = refl
  without_kept vs (Some c) = chosen_of (map_some (λ d. without d.index vs)) (nat_lt c.area t) (Some c) None

  some_of_some : {X Y Z : Type 0} (f : Y → Z) (g : X → Y) (o : Option X) → map_some f (map_some g o) ≡ map_some (λ x. f (g x)) o
  some_of_some f g None = refl
  some_of_some f g (Some x) = refl

  -- an arc's own next step, by the corners of all arcs
  next_is : (k : ℕ) (vs : List Vertex) → next t vs ≡ map_some (λ c. without c.corner.index vs) (first_corner (filter arc_under (arc_corners k vs)))
  next_is k vs = without_kept vs (least (corners vs))
      ∙ ap (map_some (λ c. without c.index vs)) (sym (least_under (corners vs)) ∙ ap (λ cs. least (filter under cs)) (sym (corners_are k vs))
      ∙ ap least (filter_map under corner_of (arc_corners k vs))
      ∙ least_first k (filter arc_under (arc_corners k vs)) (sub_all (λ c. c.arc ≡ k) (sub_filter arc_under (arc_corners k vs)) (arcs_are k vs)))
      ∙ some_of_some (λ c. without c.index vs) corner_of (first_corner (filter arc_under (arc_corners k vs)))

  -- ---- an arc reduced to the end

  abbrev end_of : List Vertex → List Vertex
  end_of vs = eliminate (length vs) t vs

  none_in : (n : ℕ) (vs : List Vertex) → length vs ≤ 0 → eliminate n t vs ≡ vs
  none_in zero vs h = refl
  none_in (suc n) [] h = refl
  none_in (suc n) (v ∷ vs) h = absurd (omega (arith, h))

  -- more steps than vertices change nothing
  steps_enough : (m n : ℕ) (vs : List Vertex) → length vs ≤ m → length vs ≤ n → eliminate m t vs ≡ eliminate n t vs
  steps_enough zero n vs h k = sym (none_in n vs h)
  steps_enough (suc m) zero vs h k = none_in (suc m) vs k
  steps_enough (suc m) (suc n) vs h k = grind (arith, steps_enough m n, next_shorter t vs)

  -- an arc has the end of what its next step leaves
  end_next : (vs : List Vertex) → Holds (λ ws. end_of ws ≡ end_of vs) (next t vs)
  end_next [] = tt
  end_next (v ∷ vs) = grind (arith, steps_enough, next_shorter t (v ∷ vs))

  -- and is its own end where there is no next step
  end_none : (vs : List Vertex) → next t vs ≡ None → end_of vs ≡ vs
  end_none [] h = refl
  end_none (v ∷ vs) h = ap (go_on (length vs) t (v ∷ vs)) h

  -- ---- all arcs

  abbrev Steps : List (List Vertex) → Option ArcCorner → Type 0
  Steps arcs None = map end_of arcs ≡ arcs
  Steps arcs (Some c) = (map end_of (left_by arcs c) ≡ map end_of arcs) × (length (joined (left_by arcs c)) < length (joined arcs))

  joined_longer : (vs : List Vertex) (old new : List (List Vertex)) → length (joined new) < length (joined old) → length (joined (vs ∷ new)) < length (joined (vs ∷ old))
  joined_longer vs old new h = omega (arith, length-append vs (joined new), length-append vs (joined old), h)

  joined_shorter : (vs ws : List Vertex) (arcs : List (List Vertex)) → length ws < length vs → length (joined (ws ∷ arcs)) < length (joined (vs ∷ arcs))
  joined_shorter vs ws arcs h = omega (arith, length-append vs (joined arcs), length-append ws (joined arcs), h)

  -- the first arc's corner goes
  steps_here : (vs : List Vertex) (arcs : List (List Vertex)) (c : ArcCorner) → c.arc ≡ 0 → next t vs ≡ Some (without c.corner.index vs) → Steps (vs ∷ arcs) (Some c)
  steps_here vs arcs c h e =
      let k : left_by (vs ∷ arcs) c ≡ without c.corner.index vs ∷ arcs = ap (λ n. without_at n c.corner.index (vs ∷ arcs)) h in
      let same : end_of (without c.corner.index vs) ≡ end_of vs = subst (Holds (λ ws. end_of ws ≡ end_of vs)) e (end_next vs) in
      let less : length (without c.corner.index vs) < length vs = subst (Holds (λ ws. length ws < length vs)) e (next_shorter t vs) in
      subst (λ left. (map end_of left ≡ map end_of (vs ∷ arcs)) × (length (joined left) < length (joined (vs ∷ arcs)))) (sym k)
      (ap (λ ws. ws ∷ map end_of arcs) same, joined_shorter vs (without c.corner.index vs) arcs less)

  -- a later arc's corner goes
  steps_later : (vs : List Vertex) (arcs : List (List Vertex)) (c : ArcCorner) → Steps arcs (Some c) → Steps (vs ∷ arcs) (Some (in_next_arc c))
  steps_later vs arcs c h = (ap (λ more. end_of vs ∷ more) h.0, joined_longer vs arcs (left_by arcs c) h.1)

  steps_both : (vs : List Vertex) (arcs : List (List Vertex)) (c d : Option ArcCorner) → Holds (λ x. x.arc ≡ 0) c → next t vs ≡ map_some (λ x. without x.corner.index vs) c → Steps arcs d →
      Steps (vs ∷ arcs) (earlier c (map_some in_next_arc d))
  steps_both vs arcs None None h e s = ap (λ ws. ws ∷ map end_of arcs) (end_none vs e) ∙ ap (λ more. vs ∷ more) s
  steps_both vs arcs None (Some d) h e s = steps_later vs arcs d s
  steps_both vs arcs (Some c) None h e s = steps_here vs arcs c h e
  steps_both vs arcs (Some c) (Some d) h e s = holds_of_chosen (λ x. Steps (vs ∷ arcs) (Some x)) (goes_before (in_next_arc d) c) (in_next_arc d) c (steps_later vs arcs d s) (steps_here vs arcs c h e)

  -- the first corner of all: of the first arc's first and the others' first the one that goes before
  first_split : (vs : List Vertex) (arcs : List (List Vertex)) →
      first_corner (filter arc_under (all_corners 0 (vs ∷ arcs))) ≡ earlier (first_corner (filter arc_under (arc_corners 0 vs))) (map_some in_next_arc (first_corner (filter arc_under (all_corners 0 arcs))))
  first_split vs arcs = ap first_corner (filter-append arc_under (arc_corners 0 vs) (all_corners 1 arcs))
      ∙ first_append (filter arc_under (arc_corners 0 vs)) (filter arc_under (all_corners 1 arcs))
      ∙ ap (earlier (first_corner (filter arc_under (arc_corners 0 vs)))) (ap (λ cs. first_corner (filter arc_under cs)) (later_arcs 0 arcs)
      ∙ ap first_corner (filter_map arc_under in_next_arc (all_corners 0 arcs)) ∙ first_next (filter arc_under (all_corners 0 arcs)))

  all_steps : (arcs : List (List Vertex)) → Steps arcs (first_corner (filter arc_under (all_corners 0 arcs)))
  all_steps [] = refl
  all_steps (vs ∷ arcs) = subst (Steps (vs ∷ arcs)) (sym (first_split vs arcs)) (steps_both vs arcs (first_corner (filter arc_under (arc_corners 0 vs))) (first_corner (filter arc_under (all_corners 0 arcs)))
      (first_holds (λ c. c.arc ≡ 0) (filter arc_under (arc_corners 0 vs)) (sub_all (λ c. c.arc ≡ 0) (sub_filter arc_under (arc_corners 0 vs)) (arcs_are 0 vs)))
      (next_is 0 vs) (all_steps arcs))

  empty_ends : (arcs : List (List Vertex)) → length (joined arcs) ≤ 0 → map end_of arcs ≡ arcs
  empty_ends [] h = refl
  empty_ends ([] ∷ arcs) h = ap (λ more. [] ∷ more) (empty_ends arcs h)
  empty_ends ((v ∷ vs) ∷ arcs) h = absurd (omega (arith, h))

  module _ (guard : Guard) (always : (arcs : List (List Vertex)) (c : ArcCorner) → guard arcs c ≡ true) where
    goes_is : (arcs : List (List Vertex)) (c : ArcCorner) → goes guard t arcs c ≡ arc_under c
    goes_is arcs c = grind (arith, always)

    go_ends : (n : ℕ) (arcs : List (List Vertex)) → length (joined arcs) ≤ suc n → ((left : List (List Vertex)) → length (joined left) ≤ n → eliminate_arcs guard n t left ≡ map end_of left) →
        (o : Option ArcCorner) → Steps arcs o → (elim (map_some (left_by arcs) o) [ None ↦ arcs | Some left ↦ eliminate_arcs guard n t left ]) ≡ map end_of arcs
    go_ends n arcs h f None s = sym s
    go_ends n arcs h f (Some c) s = f (left_by arcs c) (omega (arith, h, s.1)) ∙ s.0

    eliminate_ends : (n : ℕ) (arcs : List (List Vertex)) → length (joined arcs) ≤ n → eliminate_arcs guard n t arcs ≡ map end_of arcs
    eliminate_ends zero arcs h = sym (empty_ends arcs h)
    eliminate_ends (suc n) arcs h = go_ends n arcs h (λ left k. eliminate_ends n left k) (first_corner (filter (goes guard t arcs) (all_corners 0 arcs)))
        (subst (λ cs. Steps arcs (first_corner cs)) (sym (filter_agree (goes guard t arcs) arc_under (goes_is arcs) (all_corners 0 arcs))) (all_steps arcs))

  pub length_joined : (arcs : List (List Point)) → length (joined (map (numbered 0) arcs)) ≡ length (joined arcs)
  length_joined [] = refl
  length_joined (ps ∷ arcs) = length-append (numbered 0 ps) (joined (map (numbered 0) arcs)) ∙ ap (λ n. n + length (joined (map (numbered 0) arcs))) (length_numbered 0 ps)
      ∙ ap (λ n. length ps + n) (length_joined arcs) ∙ sym (length-append ps (joined arcs))

  ends_reduced : (arcs : List (List Point)) → points_of (map end_of (map (numbered 0) arcs)) ≡ map (reduced t) arcs
  unfolding reduced
  ends_reduced [] = refl
  ends_reduced (ps ∷ arcs) = ap (λ n. map (λ v. v.point) (eliminate n t (numbered 0 ps)) ∷ points_of (map end_of (map (numbered 0) arcs))) (length_numbered 0 ps)
      ∙ ap (λ more. map (λ v. v.point) (eliminate (length ps) t (numbered 0 ps)) ∷ more) (ends_reduced arcs)

  ends_indexes : (arcs : List (List Point)) → map (map (λ v. v.index)) (map end_of (map (numbered 0) arcs)) ≡ map (reduce t) arcs
  unfolding reduce
  ends_indexes [] = refl
  ends_indexes (ps ∷ arcs) = ap (λ n. map (λ v. v.index) (eliminate n t (numbered 0 ps)) ∷ map (map (λ v. v.index)) (map end_of (map (numbered 0) arcs))) (length_numbered 0 ps)
      ∙ ap (λ more. map (λ v. v.index) (eliminate (length ps) t (numbered 0 ps)) ∷ more) (ends_indexes arcs)

none_held : (arcs : List (List Vertex)) (c : ArcCorner) → guarded_by false [] arcs c ≡ true
unfolding keeps_rings
none_held arcs c = refl

pub unguarded_index_law : UnguardedIndexLaw
unfolding reduce_arcs
unguarded_index_law t arcs =
    ap (map (map (λ v. v.index))) (eliminate_ends t (guarded_by false []) none_held (length (joined arcs)) (map (numbered 0) arcs) (let k = length_joined t arcs in omega (arith, k))) ∙ ends_indexes t arcs

pub unguarded_law : UnguardedLaw
unfolding reduced_arcs
unguarded_law t arcs =
    ap points_of (eliminate_ends t (guarded_by false []) none_held (length (joined arcs)) (map (numbered 0) arcs) (let k = length_joined t arcs in omega (arith, k))) ∙ ends_reduced t arcs
