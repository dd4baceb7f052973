-- The arcs stay as many, each with its ends and without new positions, and no corner that is left may go.
use Rattle.std.proofs.Common.{◌≡◌, ℕ, zero, suc, ◌+◌, ◌-◌, ◌<◌, ◌≤◌, true, List, [], ◌∷◌, ◌++◌, length, map, None, refl, ap, sym, ◌∙◌, subst, arith}
use Rattle.guarded_meaning.proofs.Names.{length-append, AllByRecursion, filter, all_weaker, joined, map_some, Point, Holds, sub_same, sub_chain, sub_map, sub_filter, Vertex, without, numbered, Sublist, HasOwnIndexes, ArcCorner, arc_corners, all_corners, left_by, points_of, first_corner, Guard, goes, next_arcs, eliminate_arcs, remaining_arcs, reduced_arcs, reduce_arcs, ThinnedLaw, ArcsRise, NoneGoes, EachTo, last_after, HasEndsOf, IsThinned}
use Rattle.elimination_meaning.specs.Rising.{RisesTo, RisesOver}
pub use Rattle.elimination_meaning.proofs.Rising.{AreRising, sub_rising, numbered_rising}
use Rattle.guarded_meaning.proofs.Kept.{next_holds, eliminate_keeps, points_numbered}
use Rattle.guarded_meaning.proofs.Removal.{IsTaken, all_taken, in_next_arc, first_and_later, own_indexes_left, all_numbered_own}
use Rattle.guarded_meaning.proofs.Unguarded.{length_joined}

-- ---- ends

ends_same : {X : Type 0} (xs : List X) → HasEndsOf xs xs
ends_same [] = tt
ends_same (x ∷ xs) = (refl, refl)

ends_chain : {X : Type 0} (xs ys zs : List X) → HasEndsOf xs ys → HasEndsOf ys zs → HasEndsOf xs zs
ends_chain xs ys zs h k = grind arith

last_same : {X : Type 0} (x : X) (front : List X) (a p d : X) (back : List X) → last_after x (front ++ (a ∷ (d ∷ back))) ≡ last_after x (front ++ (a ∷ (p ∷ (d ∷ back))))
last_same x [] a p d back = refl
last_same x (y ∷ front) a p d back = last_same y front a p d back

ends_without : {X : Type 0} (front : List X) (a p d : X) (back : List X) → HasEndsOf (front ++ (a ∷ (d ∷ back))) (front ++ (a ∷ (p ∷ (d ∷ back))))
ends_without [] a p d back = (refl, refl)
ends_without (x ∷ front) a p d back = (refl, last_same x front a p d back)

last_map : {X Y : Type 0} (f : X → Y) (x : X) (xs : List X) → last_after (f x) (map f xs) ≡ f (last_after x xs)
last_map f x [] = refl
last_map f x (y ∷ ys) = last_map f y ys

ends_map : {X Y : Type 0} (f : X → Y) (xs ys : List X) → HasEndsOf xs ys → HasEndsOf (map f xs) (map f ys)
ends_map f xs ys h = grind (arith, last_map)

thinned_map : {X Y : Type 0} (f : X → Y) (xs ys : List X) → IsThinned xs ys → IsThinned (map f xs) (map f ys)
thinned_map f xs ys h = (sub_map f h.0, ends_map f xs ys h.1)

-- ---- lists of lists

pub each_same : {X : Type 0} (xss : List (List X)) → EachTo IsThinned xss xss
each_same [] = tt
each_same (xs ∷ xss) = ((sub_same xs, ends_same xs), each_same xss)

pub each_chain : {X : Type 0} (xss yss zss : List (List X)) → EachTo IsThinned xss yss → EachTo IsThinned yss zss → EachTo IsThinned xss zss
each_chain [] [] zss h k = k
each_chain [] (ys ∷ yss) zss h k = absurd h
each_chain (xs ∷ xss) [] zss h k = absurd h
each_chain (xs ∷ xss) (ys ∷ yss) [] h k = absurd k
each_chain (xs ∷ xss) (ys ∷ yss) (zs ∷ zss) h k = ((sub_chain h.0.0 k.0.0, ends_chain xs ys zs h.0.1 k.0.1), each_chain xss yss zss h.1 k.1)

pub each_map : {X Y : Type 0} (f : X → Y) (xss yss : List (List X)) → EachTo IsThinned xss yss → EachTo IsThinned (map (map f) xss) (map (map f) yss)
each_map f [] [] h = tt
each_map f [] (ys ∷ yss) h = absurd h
each_map f (xs ∷ xss) [] h = absurd h
each_map f (xs ∷ xss) (ys ∷ yss) h = (thinned_map f xs ys h.0, each_map f xss yss h.1)

-- ---- a corner that goes

abbrev pub Thins : List (List Vertex) → ArcCorner → Type 0
Thins arcs c = EachTo IsThinned (left_by arcs c) arcs × (length (joined (left_by arcs c)) < length (joined arcs))

longer : (front back : List Vertex) (a p d : Vertex) → length (front ++ (a ∷ (d ∷ back))) < length (front ++ (a ∷ (p ∷ (d ∷ back))))
longer front back a p d = omega (arith, length-append front (a ∷ (d ∷ back)), length-append front (a ∷ (p ∷ (d ∷ back))))

thins_first : (vs : List Vertex) (arcs : List (List Vertex)) (c : ArcCorner) → IsTaken 0 vs c → Thins (vs ∷ arcs) c
thins_first vs arcs c t =
    let sub : Sublist (without t.p.index vs) vs = sub_filter _ vs in
    let ends : HasEndsOf (without t.p.index vs) vs = subst (λ ws. HasEndsOf ws vs) (sym t.is) (subst (λ ws. HasEndsOf (t.front ++ (t.a ∷ (t.d ∷ t.back))) ws) (sym t.was) (ends_without t.front t.a t.p t.d t.back)) in
    let less : length (without t.p.index vs) < length vs = subst (λ ws. length ws < length vs) (sym t.is) (subst (λ ws. length (t.front ++ (t.a ∷ (t.d ∷ t.back))) < length ws) (sym t.was) (longer t.front t.back t.a t.p t.d)) in
    subst (Thins (vs ∷ arcs)) (sym t.at) (((sub, ends), each_same arcs), omega (arith, length-append (without t.p.index vs) (joined arcs), length-append vs (joined arcs), less))

thins_later : (vs : List Vertex) (arcs : List (List Vertex)) (c : ArcCorner) → Thins arcs c → Thins (vs ∷ arcs) (in_next_arc c)
thins_later vs arcs c h = (((sub_same vs, ends_same vs), h.0), omega (arith, length-append vs (joined (left_by arcs c)), length-append vs (joined arcs), h.1))

pub all_thin : (arcs : List (List Vertex)) → AllByRecursion HasOwnIndexes arcs → AllByRecursion (Thins arcs) (all_corners 0 arcs)
all_thin [] h = tt
all_thin (vs ∷ arcs) h =
    first_and_later (Thins (vs ∷ arcs)) vs arcs (all_weaker (IsTaken 0 vs) (Thins (vs ∷ arcs)) (λ c t. thins_first vs arcs c t) (arc_corners 0 vs) (all_taken 0 vs h.0))
    (all_weaker (Thins arcs) (λ c. Thins (vs ∷ arcs) (in_next_arc c)) (λ c r. thins_later vs arcs c r) (all_corners 0 arcs) (all_thin arcs h.1))

-- ---- all steps

abbrev pub IsSound : List (List Vertex) → List (List Vertex) → Type 0
IsSound old arcs = EachTo IsThinned arcs old × AllByRecursion HasOwnIndexes arcs

pub sound_step : (guard : Guard) (old arcs : List (List Vertex)) → IsSound old arcs → AllByRecursion (λ c. guard arcs c ≡ true → IsSound old (left_by arcs c)) (all_corners 0 arcs)
sound_step guard old arcs h = all_weaker (Thins arcs) (λ c. guard arcs c ≡ true → IsSound old (left_by arcs c))
    (λ c r g. (each_chain (left_by arcs c) arcs old r.0 h.0, own_indexes_left c.arc c.corner.index arcs h.1)) (all_corners 0 arcs) (all_thin arcs h.1)

pub remaining_thinned : (guard : Guard) (t : ℕ) (arcs : List (List Point)) → EachTo IsThinned (remaining_arcs guard t arcs) (map (numbered 0) arcs)
remaining_thinned guard t arcs = (eliminate_keeps guard t (IsSound (map (numbered 0) arcs)) (sound_step guard (map (numbered 0) arcs)) (length (joined arcs)) (map (numbered 0) arcs)
    (each_same (map (numbered 0) arcs), all_numbered_own arcs)).0

pub thinned_law : ThinnedLaw
unfolding reduced_arcs
thinned_law guard t arcs = subst (EachTo IsThinned (points_of (remaining_arcs guard t arcs))) (points_numbered arcs)
    (each_map (λ v. v.point) (remaining_arcs guard t arcs) (map (numbered 0) arcs) (remaining_thinned guard t arcs))

-- ---- indexes

last_numbered : (i : ℕ) (ps : List Point) → last_after i (map (λ v. v.index) (numbered (i + 1) ps)) ≡ i + length ps
last_numbered i [] = omega arith
last_numbered i (p ∷ ps) = let h = last_numbered (i + 1) ps in h ∙ omega arith

rises_to : (last i : ℕ) (is : List ℕ) → AreRising (i ∷ is) → last_after i is ≡ last → RisesTo last i is
rises_to last i [] h e = e
rises_to last i (j ∷ is) h e = (h.0.0, rises_to last j is h.1 e)

rises_over : (is : List ℕ) (ps : List Point) → IsThinned is (map (λ v. v.index) (numbered 0 ps)) → 2 ≤ length ps → RisesOver (length ps) is
rises_over is [] h two = absurd (omega (arith, two))
rises_over [] (p ∷ ps) h two = absurd h.1
rises_over (i ∷ is) (p ∷ ps) h two =
    let e : last_after i is ≡ length (p ∷ ps) - 1 = h.1.1 ∙ last_numbered 0 ps ∙ omega arith in
    (h.1.0, rises_to (length (p ∷ ps) - 1) i is (sub_rising h.0 (numbered_rising 0 (p ∷ ps))) e)

each_rises : (iss : List (List ℕ)) (arcs : List (List Point)) → EachTo IsThinned iss (map (map (λ v. v.index)) (map (numbered 0) arcs)) → EachTo (λ is ps. 2 ≤ length ps → RisesOver (length ps) is) iss arcs
each_rises [] [] h = tt
each_rises [] (ps ∷ arcs) h = absurd h
each_rises (is ∷ iss) [] h = absurd h
each_rises (is ∷ iss) (ps ∷ arcs) h = ((λ two. rises_over is ps h.0 two), each_rises iss arcs h.1)

pub arcs_rise : ArcsRise
unfolding reduce_arcs
arcs_rise guard t arcs = each_rises (map (map (λ v. v.index)) (remaining_arcs guard t arcs)) arcs
    (each_map (λ v. v.index) (remaining_arcs guard t arcs) (map (numbered 0) arcs) (remaining_thinned guard t arcs))

-- ---- steps enough

abbrev pub IsLess : List (List Vertex) → List (List Vertex) → Type 0
IsLess arcs left = AllByRecursion HasOwnIndexes left × (length (joined left) < length (joined arcs))

pub next_less : (guard : Guard) (t : ℕ) (arcs : List (List Vertex)) → AllByRecursion HasOwnIndexes arcs → Holds (IsLess arcs) (next_arcs guard t arcs)
next_less guard t arcs h = next_holds guard t (IsLess arcs) arcs (all_weaker (Thins arcs) (λ c. guard arcs c ≡ true → IsLess arcs (left_by arcs c)) (λ c r g. (own_indexes_left c.arc c.corner.index arcs h, r.1)) (all_corners 0 arcs) (all_thin arcs h))

pub no_corners : (k : ℕ) (arcs : List (List Vertex)) → length (joined arcs) ≤ 0 → all_corners k arcs ≡ []
no_corners k [] h = refl
no_corners k ([] ∷ arcs) h = no_corners (suc k) arcs h
no_corners k ((v ∷ vs) ∷ arcs) h = absurd (omega (arith, h))

eliminate_none : (guard : Guard) (t n : ℕ) (arcs : List (List Vertex)) → AllByRecursion HasOwnIndexes arcs → length (joined arcs) ≤ n → next_arcs guard t (eliminate_arcs guard n t arcs) ≡ None
eliminate_none guard t zero arcs own h = ap (λ cs. map_some (left_by arcs) (first_corner (filter (goes guard t arcs) cs))) (no_corners 0 arcs h)
eliminate_none guard t (suc n) arcs own h = grind (arith, eliminate_none guard t n, next_less guard t arcs own)

pub none_goes : NoneGoes
none_goes guard t arcs = eliminate_none guard t (length (joined arcs)) (map (numbered 0) arcs) (all_numbered_own arcs) (let k = length_joined t arcs in omega (arith, k))
