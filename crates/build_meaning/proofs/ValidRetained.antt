-- Arcs of which cells are retained: by the indexes that reduction leaves they are the reduced ones, and from the first to the last they begin and end as before.
use Rattle.std.proofs.Common.{◌≡◌, ℕ, suc, Bool, ◌+◌, List, [], ◌∷◌, map, length, Some, refl, ap, ◌∙◌, arith, sym, zero, ◌≤◌, ℤ, pos, negsuc, Option, None}
use Rattle.elimination_meaning.proofs.Steps.{Holds}
use Rattle.build_meaning.proofs.Names.{AllByRecursion, all_two, all_weaker, map_agree, at, with_some, Point, sub_all, Vertex, numbered, remaining, reduce, reduced, keep_from, RetainedIsReduced, retained, retained_arcs, eliminate_sub, or_empty, arc_at, first_of, last_of, Transform, FromFirstToLast, EachFromFirstToLast, IsPlace, IsArc}
use Rattle.build_meaning.proofs.Trimmed.{kept_of_map}
use Rattle.build_meaning.proofs.ValidEnds.{SameEnds, last_reverse, first_reverse}

-- the vertex stands in the line at its index
abbrev pub Stands : List Point → Vertex → Type 0
Stands ps v = at ps v.index ≡ Some v.point

numbered_stand : (ps : List Point) (i : ℕ) (qs : List Point) → ((j : ℕ) → at ps (i + j) ≡ at qs j) → AllByRecursion (Stands ps) (numbered i qs)
numbered_stand ps i [] h = tt
numbered_stand ps i (q ∷ qs) h = (
  ap (at ps) (let e : i ≡ i + 0 = omega arith in e) ∙ h 0,
  numbered_stand ps (i + 1) qs (λ j. ap (at ps) (let e : i + 1 + j ≡ i + suc j = omega arith in e) ∙ h (suc j)),
)

pub points_retained : (ps : List Point) (vs : List Vertex) → AllByRecursion (Stands ps) vs → retained (map (λ v. v.index) vs) ps ≡ map (λ v. v.point) vs
points_retained ps [] h = refl
points_retained ps (v ∷ vs) h = ap (λ o. with_some o (retained (map (λ v. v.index) vs) ps)) h.0 ∙ ap (λ l. v.point ∷ l) (points_retained ps vs h.1)

-- each vertex of the line stands in it
pub all_stand : (ps : List Point) → AllByRecursion (Stands ps) (numbered 0 ps)
all_stand ps = numbered_stand ps 0 ps (λ j. ap (at ps) (let e : 0 + j ≡ j = omega arith in e))

pub retained_is_reduced : RetainedIsReduced
unfolding reduce reduced
retained_is_reduced t ps = points_retained ps (remaining t ps) (sub_all (Stands ps) (eliminate_sub (length ps) t (numbered 0 ps)) (all_stand ps))

-- each arc is retained by its own indexes
pub retained_each : (f : List Point → List ℕ) (arcs : List (List Point)) → retained_arcs (map f arcs) arcs ≡ map (λ a. retained (f a) a) arcs
retained_each f [] = refl
retained_each f (a ∷ arcs) = ap (λ xs. retained (f a) a ∷ xs) (retained_each f arcs)

pub each_reduced : (t : ℕ) (arcs : List (List Point)) → map (λ a. retained (reduce t a) a) arcs ≡ map (reduced t) arcs
each_reduced t arcs = search (all_two, all_weaker, map_agree, retained_is_reduced)

-- so it is where only some of them are left
pub each_kept : (t : ℕ) (used : ℕ → Bool) (arcs : List (List Point)) →
    keep_from used 0 (retained_arcs (map (reduce t) arcs) arcs) ≡ retained_arcs (map (reduce t) (keep_from used 0 arcs)) (keep_from used 0 arcs)
each_kept t used arcs =
    ap (keep_from used 0) (retained_each (reduce t) arcs) ∙ sym (kept_of_map (λ a. retained (reduce t a) a) used 0 arcs) ∙ sym (retained_each (reduce t) (keep_from used 0 arcs))

-- ---- one arc

all_at : {A : Type 0} (X : A → Type 0) (xs : List A) → AllByRecursion X xs → (i : ℕ) → Holds X (at xs i)
all_at X [] h i = tt
all_at X (x ∷ xs) h zero = h.0
all_at X (x ∷ xs) h (suc i) = all_at X xs h.1 i

all_with : {A : Type 0} (X : A → Type 0) (o : Option A) (xs : List A) → Holds X o → AllByRecursion X xs → AllByRecursion X (with_some o xs)
all_with X o xs h k = grind arith

pub all_retained : {A : Type 0} (X : A → Type 0) (is : List ℕ) (xs : List A) → AllByRecursion X xs → AllByRecursion X (retained is xs)
all_retained X [] xs h = tt
all_retained X (i ∷ is) xs h = all_with X (at xs i) (retained is xs) (all_at X xs h i) (all_retained X is xs h)

abbrev or_this : {A : Type 0} → A → Option A → A
or_this d None = d
or_this d (Some a) = a

following : {A : Type 0} (x p : A) (ys : List A) → last_of ys ≡ Some p → last_of (x ∷ ys) ≡ Some p
following x p ys h = grind arith

after_with : {A : Type 0} (o : Option A) (p : A) (ys : List A) → last_of ys ≡ Some p → last_of (with_some o ys) ≡ Some p
after_with o p ys h = grind (arith, following)

retained_last : {A : Type 0} (is : List ℕ) (xs : List A) (j : ℕ) (p : A) → last_of is ≡ Some j → at xs j ≡ Some p → last_of (retained is xs) ≡ Some p
retained_last [] xs j p h k = cc
retained_last (i ∷ []) xs j p h k = ap (λ o. last_of (with_some o [])) (ap (at xs) (ap (or_this i) h) ∙ k)
retained_last (i ∷ (n ∷ is)) xs j p h k = after_with (at xs i) p (retained (n ∷ is) xs) (retained_last (n ∷ is) xs j p h k)

at_last : {A : Type 0} (x : A) (xs : List A) → (p : A) × (at (x ∷ xs) (length xs) ≡ Some p) × (last_of (x ∷ xs) ≡ Some p)
at_last x [] = (x, refl, refl)
at_last x (y ∷ ys) = at_last y ys

some_last : {A : Type 0} (p : A) (ys : List A) → last_of ys ≡ Some p → 1 ≤ length ys
some_last p [] h = cc
some_last p (y ∷ ys) h = omega arith

abbrev Keeps : List ℕ → List Point → Type 0
Keeps is cells = SameEnds (retained is cells) cells × (2 ≤ length (retained is cells))

-- the first cell and then more
first_kept : (is : List ℕ) (c d : Point) (cells : List Point) → last_of (0 ∷ is) ≡ Some (suc (length cells)) → Keeps (0 ∷ is) (c ∷ (d ∷ cells))
first_kept [] c d cells h = cc
first_kept (i ∷ is) c d cells h = grind (arith, at_last c (d ∷ cells), retained_last (i ∷ is) (c ∷ (d ∷ cells)) (suc (length cells)), some_last, following c)

pub ends_retained : (is : List ℕ) (cells : List Point) → 2 ≤ length cells → FromFirstToLast (length cells) is → SameEnds (retained is cells) cells × (2 ≤ length (retained is cells))
ends_retained is [] h k = absurd (omega (arith, h))
ends_retained is (c ∷ []) h k = absurd (omega (arith, h))
ends_retained [] (c ∷ (d ∷ cells)) h k = let z : first_of {X = ℕ} [] ≡ Some 0 = k.0 in cc
ends_retained (i ∷ is) (c ∷ (d ∷ cells)) h k = grind (arith, first_kept is c d cells)

-- ---- all arcs

abbrev AreLong : List (List Point) → Type 0
AreLong arcs = AllByRecursion (λ a. 2 ≤ length a) arcs

pub retained_length : (kept : List (List ℕ)) (arcs : List (List Point)) → EachFromFirstToLast kept arcs → length (retained_arcs kept arcs) ≡ length arcs
retained_length [] [] h = refl
retained_length [] (a ∷ arcs) h = absurd h
retained_length (is ∷ kept) [] h = absurd h
retained_length (is ∷ kept) (a ∷ arcs) h = ap (λ n. suc n) (retained_length kept arcs h.1)

at_retained : (kept : List (List ℕ)) (arcs : List (List Point)) → AreLong arcs → EachFromFirstToLast kept arcs → (i : ℕ) → SameEnds (or_empty (at (retained_arcs kept arcs) i)) (or_empty (at arcs i))
at_retained [] [] l h i = (refl, refl)
at_retained [] (a ∷ arcs) l h i = absurd h
at_retained (is ∷ kept) [] l h i = absurd h
at_retained (is ∷ kept) (a ∷ arcs) l h zero = (ends_retained is a l.0 h.0).0
at_retained (is ∷ kept) (a ∷ arcs) l h (suc i) = at_retained kept arcs l.1 h.1 i

pub named_retained : (kept : List (List ℕ)) (arcs : List (List Point)) → AllByRecursion (λ a. 2 ≤ length a) arcs → EachFromFirstToLast kept arcs → (r : ℤ)
    → SameEnds (arc_at (retained_arcs kept arcs) r) (arc_at arcs r)
named_retained kept arcs l h (pos i) = at_retained kept arcs l h i
named_retained kept arcs l h (negsuc i) = grind (arith, at_retained kept arcs l h i, first_reverse, last_reverse)

pub retained_are_arcs : (transform : Option Transform) (kept : List (List ℕ)) (arcs : List (List Point)) → AllByRecursion (IsArc transform) arcs → EachFromFirstToLast kept arcs
    → AllByRecursion (IsArc transform) (retained_arcs kept arcs)
retained_are_arcs transform [] arcs k h = tt
retained_are_arcs transform (is ∷ kept) [] k h = tt
retained_are_arcs transform (is ∷ kept) (a ∷ arcs) k h = grind (arith, ends_retained is a k.0.0 h.0, all_retained (IsPlace transform) is a k.0.1, retained_are_arcs transform kept arcs k.1 h.1)
