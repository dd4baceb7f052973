-- What is left when a corner goes: the arcs without one vertex, which keep their own indexes.
use Rattle.std.proofs.Common.{◌≡◌, ◌≢◌, ℕ, zero, suc, ◌<◌, not, ◌==◌, List, [], ◌∷◌, ◌++◌, map, refl, ap, sym, ◌∙◌, subst, arith}
use Rattle.elimination_meaning.proofs.Rising.{AreRising, numbered_rising}
use Rattle.guarded_meaning.proofs.Names.{nat_tests, AreDistinct, map-append, AllByRecursion, all_weaker, all_right, all_of_map, all_append, all_map, Point, sub_filter, sub_map, sub_apart, Vertex, without, numbered, HasOwnIndexes, ArcCorner, arc_corner_at, arc_corners_from, arc_corners, all_corners, without_at}

-- ---- one arc

-- the vertices of the corner stand in the arc one after another, and without it the others
pub record IsTaken (k : ℕ) (vs : List Vertex) (c : ArcCorner) : Type 0 where
  pub front : List Vertex
  pub a : Vertex
  pub p : Vertex
  pub d : Vertex
  pub back : List Vertex
  pub at : c ≡ arc_corner_at k a p d
  pub was : vs ≡ front ++ (a ∷ (p ∷ (d ∷ back)))
  pub is : without p.index vs ≡ front ++ (a ∷ (d ∷ back))

without_other : (i : ℕ) (v : Vertex) (vs : List Vertex) → v.index ≢ i → without i (v ∷ vs) ≡ v ∷ without i vs
without_other i v vs h = grind (arith, nat_tests)

without_itself : (v : Vertex) (vs : List Vertex) → without v.index (v ∷ vs) ≡ without v.index vs
without_itself v vs = grind (arith, nat_tests)

without_none : (i : ℕ) (vs : List Vertex) → AllByRecursion (λ j. i ≢ j) (map (λ v. v.index) vs) → without i vs ≡ vs
without_none i [] h = refl
without_none i (v ∷ vs) h = without_other i v vs (λ e. h.0 (sym e)) ∙ ap (λ ws. v ∷ ws) (without_none i vs h.1)

taken_here : (k : ℕ) (a b c : Vertex) (vs : List Vertex) → HasOwnIndexes (a ∷ (b ∷ (c ∷ vs))) → IsTaken k (a ∷ (b ∷ (c ∷ vs))) (arc_corner_at k a b c)
taken_here k a b c vs h = record {
  front = [];
  a = a;
  p = b;
  d = c;
  back = vs;
  at = refl;
  was = refl;
  is = without_other b.index a (b ∷ (c ∷ vs)) h.0.0 ∙ ap (λ ws. a ∷ ws) (without_itself b (c ∷ vs) ∙ without_none b.index (c ∷ vs) h.1.0);
}

taken_later : (k : ℕ) (a : Vertex) (vs : List Vertex) (e : ArcCorner) → HasOwnIndexes (a ∷ vs) → IsTaken k vs e → IsTaken k (a ∷ vs) e
taken_later k a vs e h t =
    let others : AllByRecursion (λ v. a.index ≢ v.index) (t.front ++ (t.a ∷ (t.p ∷ (t.d ∷ t.back)))) = subst (AllByRecursion (λ v. a.index ≢ v.index)) t.was (all_of_map (λ j. a.index ≢ j) (λ v. v.index) vs h.0) in
    record {
      front = a ∷ t.front;
      a = t.a;
      p = t.p;
      d = t.d;
      back = t.back;
      at = t.at;
      was = ap (λ ws. a ∷ ws) t.was;
      is = without_other t.p.index a vs (all_right (λ v. a.index ≢ v.index) t.front (t.a ∷ (t.p ∷ (t.d ∷ t.back))) others).1.0 ∙ ap (λ ws. a ∷ ws) t.is;
    }

taken_from : (k : ℕ) (a b : Vertex) (vs : List Vertex) → HasOwnIndexes (a ∷ (b ∷ vs)) → AllByRecursion (IsTaken k (a ∷ (b ∷ vs))) (arc_corners_from k a b vs)
taken_from k a b [] h = tt
taken_from k a b (c ∷ vs) h = (
  taken_here k a b c vs h,
  all_weaker (IsTaken k (b ∷ (c ∷ vs))) (IsTaken k (a ∷ (b ∷ (c ∷ vs)))) (λ e t. taken_later k a (b ∷ (c ∷ vs)) e h t) (arc_corners_from k b c vs) (taken_from k b c vs h.1),
)

pub all_taken : (k : ℕ) (vs : List Vertex) → HasOwnIndexes vs → AllByRecursion (IsTaken k vs) (arc_corners k vs)
all_taken k [] h = tt
all_taken k (a ∷ []) h = tt
all_taken k (a ∷ (b ∷ vs)) h = taken_from k a b vs h

-- ---- several arcs

-- a corner whose arc has another number, and so it is where another arc comes first
abbrev pub moved : (ℕ → ℕ) → ArcCorner → ArcCorner
moved g c = record { arc = g c.arc; before = c.before; corner = c.corner; after = c.after }

abbrev pub in_next_arc : ArcCorner → ArcCorner
in_next_arc = moved suc

moved_from : (g : ℕ → ℕ) (k : ℕ) (a b : Vertex) (vs : List Vertex) → arc_corners_from (g k) a b vs ≡ map (moved g) (arc_corners_from k a b vs)
moved_from g k a b [] = refl
moved_from g k a b (c ∷ vs) = ap (λ cs. arc_corner_at (g k) a b c ∷ cs) (moved_from g k b c vs)

pub moved_arc : (g : ℕ → ℕ) (k : ℕ) (vs : List Vertex) → arc_corners (g k) vs ≡ map (moved g) (arc_corners k vs)
moved_arc g k [] = refl
moved_arc g k (a ∷ []) = refl
moved_arc g k (a ∷ (b ∷ vs)) = moved_from g k a b vs

pub later_arcs : (k : ℕ) (arcs : List (List Vertex)) → all_corners (suc k) arcs ≡ map in_next_arc (all_corners k arcs)
later_arcs k [] = refl
later_arcs k (vs ∷ arcs) = ap (λ cs. cs ++ all_corners (suc (suc k)) arcs) (moved_arc suc k vs) ∙ ap (λ cs. map in_next_arc (arc_corners k vs) ++ cs) (later_arcs (suc k) arcs)
    ∙ sym (map-append in_next_arc (arc_corners k vs) (all_corners (suc k) arcs))

-- what holds of the first arc's corners, and of the others' where it comes first, holds of all
pub first_and_later : (P : ArcCorner → Type 0) (vs : List Vertex) (arcs : List (List Vertex)) → AllByRecursion P (arc_corners 0 vs) → AllByRecursion (λ c. P (in_next_arc c)) (all_corners 0 arcs) → AllByRecursion P (all_corners 0 (vs ∷ arcs))
first_and_later P vs arcs h k = all_append P (arc_corners 0 vs) (all_corners 1 arcs) h (subst (AllByRecursion P) (sym (later_arcs 0 arcs)) (all_map P in_next_arc (all_corners 0 arcs) k))

-- ---- indexes stay distinct

pub own_indexes_left : (k i : ℕ) (arcs : List (List Vertex)) → AllByRecursion HasOwnIndexes arcs → AllByRecursion HasOwnIndexes (without_at k i arcs)
own_indexes_left k i [] h = tt
own_indexes_left zero i (vs ∷ arcs) h = (sub_apart (sub_map (λ v. v.index) (sub_filter (λ v. not (v.index == i)) vs)) h.0, h.1)
own_indexes_left (suc k) i (vs ∷ arcs) h = (h.0, own_indexes_left k i arcs h.1)

rising_apart : (is : List ℕ) → AreRising is → AreDistinct is
rising_apart [] h = tt
rising_apart (i ∷ is) h = (all_weaker (λ j. i < j) (λ j. i ≢ j) (λ j l e. omega (arith, l, e)) is h.0, rising_apart is h.1)

pub all_numbered_own : (arcs : List (List Point)) → AllByRecursion HasOwnIndexes (map (numbered 0) arcs)
all_numbered_own [] = tt
all_numbered_own (ps ∷ arcs) = (rising_apart (map (λ v. v.index) (numbered 0 ps)) (numbered_rising 0 ps), all_numbered_own arcs)
