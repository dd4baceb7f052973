-- A reduced arc begins and ends as the arc does, so lines of reduced arcs meet and close as before.
use Rattle.std.proofs.Common.{◌≡◌, ℕ, zero, suc, ◌≤◌, List, [], ◌∷◌, ◌++◌, map, length, reverse, Option, None, Some, refl, ap, sym, ◌∙◌, subst, arith, ℤ, pos, negsuc}
use Rattle.build_meaning.proofs.Names.{reverse-reverse, reverse-append, AllByRecursion, at, or_empty, arc_at, first_of, last_of, Meet, Closes, Point, reduced, EndsStay}

-- they begin at the same position and end at the same
abbrev pub SameEnds : List Point → List Point → Type 0
SameEnds x y = (first_of x ≡ first_of y) × (last_of x ≡ last_of y)

pub last_end : {X : Type 0} (ps : List X) (q : X) → last_of (ps ++ (q ∷ [])) ≡ Some q
last_end [] q = refl
last_end (p ∷ []) q = refl
last_end (p ∷ (r ∷ ps)) q = last_end (r ∷ ps) q

pub split_last : (q : Point) (ps : List Point) → (between : List Point) × (l : Point) × (q ∷ ps ≡ between ++ (l ∷ []))
split_last q [] = ([], q, refl)
split_last q (r ∷ ps) = let k = split_last r ps in (q ∷ k.0, k.1, ap (λ xs. q ∷ xs) k.2)

-- ---- reduction

long : (p q : Point) (ps : List Point) → 2 ≤ length (p ∷ (ps ++ (q ∷ [])))
long p q [] = omega arith
long p q (r ∷ ps) = let k = long p q ps in omega (arith, k)

module _ (stay : EndsStay) (t : ℕ) where
  abbrev Keeps : List Point → Type 0
  Keeps x = SameEnds (reduced t x) x × (2 ≤ length (reduced t x))

  by_ends : (p q : Point) (ps : List Point) → Keeps (p ∷ (ps ++ (q ∷ [])))
  by_ends p q ps =
      let k = stay t p q ps in
      let last : last_of (p ∷ (k.0 ++ (q ∷ []))) ≡ last_of (p ∷ (ps ++ (q ∷ []))) = last_end (p ∷ k.0) q ∙ sym (last_end (p ∷ ps) q) in
      subst (λ z. SameEnds z (p ∷ (ps ++ (q ∷ []))) × (2 ≤ length z)) (sym k.1) ((refl, last), long p q k.0)

  pub ends_kept : (x : List Point) → 2 ≤ length x → SameEnds (reduced t x) x × (2 ≤ length (reduced t x))
  ends_kept [] h = absurd (omega (arith, h))
  ends_kept (p ∷ []) h = absurd (omega (arith, h))
  ends_kept (p ∷ (q ∷ ps)) h = let k = split_last q ps in subst Keeps (ap (λ xs. p ∷ xs) (sym k.2)) (by_ends p k.1 k.0)

-- ---- in either direction

pub last_reverse : (x : List Point) → last_of (reverse x) ≡ first_of x
last_reverse [] = refl
last_reverse (p ∷ ps) = ap last_of (reverse-append (p ∷ []) ps) ∙ last_end (reverse ps) p

pub first_reverse : (x : List Point) → first_of (reverse x) ≡ last_of x
first_reverse x = sym (last_reverse (reverse x)) ∙ ap last_of (reverse-reverse x)

at_ends : (f : List Point → List Point) (arcs : List (List Point)) → AllByRecursion (λ x. SameEnds (f x) x) arcs → (i : ℕ) → SameEnds (or_empty (at (map f arcs) i)) (or_empty (at arcs i))
at_ends f [] h i = (refl, refl)
at_ends f (x ∷ xs) h zero = h.0
at_ends f (x ∷ xs) h (suc i) = at_ends f xs h.1 i

-- the arc that an index names begins and ends as before
pub named_ends : (f : List Point → List Point) (arcs : List (List Point)) → AllByRecursion (λ x. SameEnds (f x) x) arcs → (r : ℤ) → SameEnds (arc_at (map f arcs) r) (arc_at arcs r)
named_ends f arcs h (pos i) = at_ends f arcs h i
named_ends f arcs h (negsuc i) = grind (arith, at_ends f arcs h i, first_reverse, last_reverse)

-- ---- lines

abbrev EndsAt : Option Point → List (List Point) → Type 0
EndsAt o xs = elim (last_of xs) [ None ↦ ⊥ | Some q ↦ last_of q ≡ o ]

module _ (f g : ℤ → List Point) (e : (r : ℤ) → SameEnds (f r) (g r)) where
  pub meet_as : (rs : List ℤ) → Meet (map g rs) → Meet (map f rs)
  meet_as [] h = tt
  meet_as (r ∷ []) h = tt
  meet_as (r ∷ (s ∷ rs)) h = ((e r).1 ∙ h.0 ∙ sym (e s).0, meet_as (s ∷ rs) h.1)

  end_as : (o : Option Point) (r : ℤ) (rs : List ℤ) → EndsAt o (map g (r ∷ rs)) → EndsAt o (map f (r ∷ rs))
  end_as o r [] h = (e r).1 ∙ h
  end_as o r (s ∷ rs) h = end_as o s rs h

  pub close_as : (rs : List ℤ) → Closes (map g rs) → Closes (map f rs)
  close_as [] h = h
  close_as (r ∷ rs) h = subst (λ o. EndsAt o (map f (r ∷ rs))) (sym (e r).0) (end_as (first_of (g r)) r rs h)
