-- Walks from cut to cut: the first segment decides the rest.
use Rattle.std.proofs.Common.{◌≡◌, ◌≢◌, ◌<◌, ◌≤◌, Bool, true, false, List, [], ◌∷◌, ◌++◌, length, reverse, append_assoc, refl, ap, sym, ◌∙◌, subst, arith, ◌⊎◌, inl, inr}
pub use Rattle.cutter.specs.Places.{At, first, later}
use Rattle.cutter.proofs.Names.{cases_lt, reverse-append, Point}
use mathlib.Core.List.{reverse-cons}
use mathlib.Core.List.{reverse-reverse}

pub at_is : {l : List Point} {a b : Point} {r xs : List Point} → At l a b r xs → xs ≡ reverse l ++ (a ∷ (b ∷ r))
at_is first = refl
at_is (later {l} {a} {b} {c} {r} h) = at_is h ∙ shift l a (b ∷ (c ∷ r))
  where
    shift : (l : List Point) (a : Point) (r : List Point) → reverse l ++ (a ∷ r) ≡ reverse (a ∷ l) ++ r
    shift l a r = sym (ap (λ xs. xs ++ r) (reverse-cons a l) ∙ append_assoc (reverse l) (a ∷ []) r)

-- equally many before: the same place
pub at_place : {l : List Point} {a b : Point} {r xs : List Point} {l' : List Point} {a' b' : Point} {r' ys : List Point} →
    At l a b r xs → At l' a' b' r' ys → xs ≡ ys → length l ≡ length l' → (l ≡ l') × (a ≡ a') × (b ≡ b') × (r ≡ r')
at_place first first e n = (refl, cc, cc, cc)
at_place first (later k) e n = absurd (omega arith)
at_place (later h) first e n = absurd (omega arith)
at_place (later {l} {a} {b} {c} {r} h) (later {l = l'} {a = a'} {b = b'} {c = c'} {r = r'} k) e n = grind (arith, at_place h k e (omega arith))

-- what follows is one more step
at_back : {l : List Point} {a b c : Point} {r xs : List Point} → At (c ∷ l) b a r xs → At l c b (a ∷ r) xs
at_back (later h) = h

-- the walk that came from a to b goes on as the list says, and stops at the first cut
module _ (cut : Point → Bool) (Via : Point → Point → Point → Type 0) where
  pub data Run : Point → Point → List Point → Type 0 where
    stop : {a b : Point} → cut b ≡ true → Run a b []
    go : {a b c : Point} {r : List Point} → cut b ≡ false → Via a b c → Run b c r → Run a b (c ∷ r)

  -- a walk from a cut to the next, which never goes back at once
  pub record IsPiece (p q : Point) (r : List Point) : Type 0 where
    pub begins : cut p ≡ true
    pub runs : Run p q r

  module _
      (back : (a b c : Point) → Via a b c → Via c b a)
      (two : (a b c d e : Point) → cut b ≡ false → Via a b c → Via d b e → (a ≡ d) ⊎ (a ≡ e))
      (turn : (a b : Point) → cut b ≡ false → Via a b a → ⊥) where
    forth : (a b c d : Point) → cut b ≡ false → Via a b c → Via a b d → c ≡ d
    forth a b c d n h k = grind arith

    -- a walk goes only one way
    pub run_unique : {a b : Point} {xs ys : List Point} → Run a b xs → Run a b ys → xs ≡ ys
    run_unique (stop h) (stop k) = refl
    run_unique (stop h) (go n v s) = absurd (let e = sym h ∙ n in cc)
    run_unique (go n v s) (stop h) = absurd (let e = sym h ∙ n in cc)
    run_unique (go {a} {b} {c} {r} n v s) (go {c = d} m w u) = let e : c ≡ d = forth a b c d n v w in
        ap (λ x. x ∷ r) e ∙ ap (λ l. d ∷ l) (run_unique (subst (λ x. Run b x r) e s) u)

    -- both ways from a segment of a piece
    pub both_runs : (p q : Point) (t : List Point) → IsPiece p q t → {l : List Point} {a b : Point} {r xs : List Point} → At l a b r xs → xs ≡ p ∷ (q ∷ t) → Run b a l × Run a b r
    both_runs p q t h (first {a} {b} {r}) e =
        let ea : a ≡ p = cc in
        let eb : b ≡ q = cc in
        let er : r ≡ t = cc in
        (stop (ap cut ea ∙ h.begins), subst (λ x. Run x b r) (sym ea) (subst (λ x. Run p x r) (sym eb) (subst (λ x. Run p q x) (sym er) h.runs)))
    both_runs p q t h (later {l} {a} {b} {c} {r} k) e = on (both_runs p q t h k e)
      where
        on : Run b a l × Run a b (c ∷ r) → Run c b (a ∷ l) × Run b c r
        on (s, go n v u) = (go n (back a b c v) s, u)

    -- neighbors in a piece differ
    pub piece_moves : (apart : (a b c : Point) → Via a b c → b ≢ c) (p q : Point) (t : List Point) → p ≢ q → IsPiece p q t →
        {l : List Point} {a b : Point} {r xs : List Point} → At l a b r xs → xs ≡ p ∷ (q ∷ t) → a ≡ b → ⊥
    piece_moves apart p q t n h (first {a} {b} {r}) e k = grind arith
    piece_moves apart p q t n h (later {l} {a} {b} {c} {r} k) e j = on (both_runs p q t h k e).1
      where
        on : Run a b (c ∷ r) → ⊥
        on (go m v u) = apart a b c v j

    -- two pieces with one segment are equal
    pub same_way : (p q : Point) (t : List Point) (p' q' : Point) (t' : List Point) → IsPiece p q t → IsPiece p' q' t' →
        {l : List Point} {a b : Point} {r : List Point} {l' r' : List Point} → At l a b r (p ∷ (q ∷ t)) → At l' a b r' (p' ∷ (q' ∷ t')) →
        (l ≡ l') × (r ≡ r') × (p ∷ (q ∷ t) ≡ p' ∷ (q' ∷ t'))
    same_way p q t p' q' t' h h' {l} {a} {b} {r} {l'} {r'} k k' = grind (arith, both_runs p q t h k refl, both_runs p' q' t' h' k' refl, run_unique, at_is k, at_is k')

    -- two pieces with one segment, the one forwards and the other backwards, are each other's reverse
    pub other_way : (p q : Point) (t : List Point) (p' q' : Point) (t' : List Point) → IsPiece p q t → IsPiece p' q' t' →
        {l : List Point} {a b : Point} {r : List Point} {l' r' : List Point} → At l a b r (p ∷ (q ∷ t)) → At l' b a r' (p' ∷ (q' ∷ t')) →
        (l ≡ r') × (r ≡ l') × (p ∷ (q ∷ t) ≡ reverse (p' ∷ (q' ∷ t')))
    other_way p q t p' q' t' h h' {l} {a} {b} {r} {l'} {r'} k k' =
        let one = both_runs p q t h k refl in
        let other = both_runs p' q' t' h' k' refl in
        let el : l ≡ r' = run_unique one.0 other.1 in
        let er : r ≡ l' = run_unique one.1 other.0 in
        (el, er, at_is k ∙ ap (λ x. reverse x ++ (a ∷ (b ∷ r))) el ∙ ap (λ x. reverse r' ++ (a ∷ (b ∷ x))) er ∙ turned r' l' ∙ ap reverse (sym (at_is k')))
      where
        turned : (x y : List Point) → reverse x ++ (a ∷ (b ∷ y)) ≡ reverse (reverse y ++ (b ∷ (a ∷ x)))
        turned x y = sym (reverse-append (reverse y) (b ∷ (a ∷ x)) ∙ ap (λ z. reverse (b ∷ (a ∷ x)) ++ z) (reverse-reverse y) ∙ ap (λ z. z ++ y) (reverse-append (b ∷ (a ∷ [])) x) ∙ append_assoc (reverse x) (a ∷ (b ∷ [])) y)

    module _ (p q : Point) (t : List Point) (h : IsPiece p q t) (moves : (l : List Point) (a b : Point) (r : List Point) → At l a b r (p ∷ (q ∷ t)) → a ≡ b → ⊥) where
      -- two walks toward each other would meet at one position or turn there
      meet : (l : List Point) (a b : Point) (r : List Point) → At l a b r (p ∷ (q ∷ t)) → At r b a l (p ∷ (q ∷ t)) → length l ≤ length r → ⊥
      meet [] a b [] k j n = moves [] a b [] k (at_place k j refl refl).1
      meet (x ∷ l) a b [] k j n = absurd (omega arith)
      meet l a b (c ∷ r) k j n = by_length (λ m. meet (a ∷ l) b c r (later k) (at_back j) m) (cases_lt (length l) (length r)) (cases_lt (length r) (length l))
        where
          inner : length l ≡ length r → ⊥
          inner e = corner (both_runs p q t h k refl).1 (at_place k (at_back j) refl e).1
            where
              corner : Run a b (c ∷ r) → a ≡ c → ⊥
              corner (go m v u) e = turn a b m (subst (λ x. Via a b x) (sym e) v)

          by_length : (length (a ∷ l) ≤ length r → ⊥) → (length l < length r) ⊎ (length r ≤ length l) → (length r < length l) ⊎ (length l ≤ length r) → ⊥
          by_length ih h o = grind (arith, at_place, inner)

      -- a piece doesn't come back along a segment
      pub never_back : {l : List Point} {a b : Point} {r : List Point} {l' r' : List Point} → At l a b r (p ∷ (q ∷ t)) → At l' b a r' (p ∷ (q ∷ t)) → ⊥
      never_back {l} {a} {b} {r} {l'} {r'} k k' = grind (arith, other_way, meet)

      -- no interior position stands twice
      pub interior_once : {l : List Point} {a b c : Point} {r : List Point} {l' : List Point} {a' c' : Point} {r' : List Point} →
          At l a b (c ∷ r) (p ∷ (q ∷ t)) → At l' a' b (c' ∷ r') (p ∷ (q ∷ t)) → l ≡ l'
      interior_once {l} {a} {b} {c} {r} {l'} {a'} {c'} {r'} k k' = on (both_runs p q t h k refl).1 (both_runs p q t h k' refl).1
        where
          by_case : (a ≡ a') ⊎ (a ≡ c') → l ≡ l'
          by_case (inl e) = (same_way p q t p q t h h k (subst (λ x. At l' x b (c' ∷ r') (p ∷ (q ∷ t))) (sym e) k')).0
          by_case (inr e) = absurd (never_back k (later (subst (λ x. At l' a' b (x ∷ r') (p ∷ (q ∷ t))) (sym e) k')))

          on : Run a b (c ∷ r) → Run a' b (c' ∷ r') → l ≡ l'
          on (go m v u) (go m' v' u') = by_case (two a b c a' c' m v v')
