-- Pieces of lines: sharing, and each place once.
use Rattle.std.proofs.Common.{◌≡◌, ◌≢◌, true, List, [], ◌∷◌, reverse, refl, ap, sym, ◌∙◌, subst, inl, inr, length, ◌<◌, arith}
use Rattle.cutter.proofs.Names.{AllByRecursion, Point, Moves, is_cut, Visit, visits_from, all_visits, last, Stroke, pieces_from, Apart, all_but_last_of, interior_of}
use Rattle.cutter.proofs.Walks.{At, first, later, same_way, other_way, never_back, interior_once, piece_moves}
use Rattle.cutter.proofs.Junctions.{In, Via, visit, via_back, via_two, via_turn}
use Rattle.cutter.proofs.Splits.{Steps, IsWalk, AllWalks, all_walks}

-- a piece of lines
abbrev pub IsPieceOf : List Stroke → List Point → Type 0
IsPieceOf ls piece = IsWalk (is_cut ls) (Via ls) piece

module _ (ls : List Stroke) (x y : List Point) (h : IsPieceOf ls x) (k : IsPieceOf ls y) where
  -- two pieces that have a segment in the same direction are equal ..
  pub one_way : {l : List Point} {a b : Point} {r l' r' : List Point} → At l a b r x → At l' a b r' y → x ≡ y
  one_way {l} {a} {b} {r} {l'} {r'} m n = h.is ∙ (same_way (is_cut ls) (Via ls) (via_back ls) (via_two ls) (via_turn ls) h.p h.q h.t k.p k.q k.t h.walk k.walk
      (subst (λ z. At l a b r z) h.is m) (subst (λ z. At l' a b r' z) k.is n)).2 ∙ sym k.is

  -- .. and in opposite directions, each other's reverse
  pub two_ways : {l : List Point} {a b : Point} {r l' r' : List Point} → At l a b r x → At l' b a r' y → x ≡ reverse y
  two_ways {l} {a} {b} {r} {l'} {r'} m n = h.is ∙ (other_way (is_cut ls) (Via ls) (via_back ls) (via_two ls) (via_turn ls) h.p h.q h.t k.p k.q k.t h.walk k.walk
      (subst (λ z. At l a b r z) h.is m) (subst (λ z. At l' b a r' z) k.is n)).2 ∙ ap reverse (sym k.is)

module _ (ls : List Stroke) (x : List Point) (h : IsPieceOf ls x) where
  moves : (l : List Point) (a b : Point) (r : List Point) → At l a b r (h.p ∷ (h.q ∷ h.t)) → a ≡ b → ⊥
  moves l a b r m e = piece_moves (is_cut ls) (Via ls) (via_back ls) (via_two ls) (via_turn ls) (λ a b c v. v.goes) h.p h.q h.t h.differ h.walk m refl e

  -- no segment stands twice: neither in the same direction ..
  pub once : {l : List Point} {a b : Point} {r l' r' : List Point} → At l a b r x → At l' a b r' x → l ≡ l'
  once {l} {a} {b} {r} {l'} {r'} m n = (same_way (is_cut ls) (Via ls) (via_back ls) (via_two ls) (via_turn ls) h.p h.q h.t h.p h.q h.t h.walk h.walk
      (subst (λ z. At l a b r z) h.is m) (subst (λ z. At l' a b r' z) h.is n)).0

  -- .. nor backwards
  pub not_back : {l : List Point} {a b : Point} {r l' r' : List Point} → At l a b r x → At l' b a r' x → ⊥
  not_back {l} {a} {b} {r} {l'} {r'} m n = never_back (is_cut ls) (Via ls) (via_back ls) (via_two ls) (via_turn ls) h.p h.q h.t h.walk moves
      (subst (λ z. At l a b r z) h.is m) (subst (λ z. At l' b a r' z) h.is n)

  -- interior positions are distinct
  pub interior : {l : List Point} {a b c : Point} {r l' : List Point} {a' c' : Point} {r' : List Point} → At l a b (c ∷ r) x → At l' a' b (c' ∷ r') x → l ≡ l'
  interior {l} {a} {b} {c} {r} {l'} {a'} {c'} {r'} m n = interior_once (is_cut ls) (Via ls) (via_back ls) (via_two ls) (via_turn ls) h.p h.q h.t h.walk moves
      (subst (λ z. At l a b (c ∷ r) z) h.is m) (subst (λ z. At l' a' b (c' ∷ r') z) h.is n)

-- steps of a list whose visits are seen
pub steps_of : (ls : List Stroke) (a b : Point) (ps : List Point) → ((v : Visit) → In v (visits_from a b ps) → In v (all_visits ls)) → Moves a (b ∷ ps) → Steps (is_cut ls) (Via ls) a b ps
steps_of ls a b [] f m = tt
steps_of ls a b (c ∷ ps) f m = (record { seen = inl (f (visit a b c) (inl refl)); comes = m.0; goes = m.1.0 }, steps_of ls b c ps (λ v k. f v (inr k)) m.1)

-- the pieces of a list from cut to cut, all of whose visits are seen and whose neighbors differ
pub pieces_hold : (ls : List Stroke) (a b : Point) (ps : List Point) → is_cut ls a ≡ true → is_cut ls (last b ps) ≡ true → Moves a (b ∷ ps) →
    ((v : Visit) → In v (visits_from a b ps) → In v (all_visits ls)) → AllWalks (is_cut ls) (Via ls) (pieces_from (is_cut ls) a (b ∷ ps))
pieces_hold ls a b ps h k m f = all_walks (is_cut ls) (Via ls) a b ps h (steps_of ls a b ps f m) m k

-- one that stands at another place than b differs from b, and so do those after it
differs : (x : List Point) (once : (l : List Point) (a b c : Point) (r l' : List Point) (a' c' : Point) (r' : List Point) → At l a b (c ∷ r) x → At l' a' b (c' ∷ r') x → l ≡ l')
    (l0 : List Point) (a0 b c0 : Point) (r0 : List Point) → At l0 a0 b (c0 ∷ r0) x →
    (l : List Point) (a y : Point) (r : List Point) → At l a y r x → length l0 < length l → AllByRecursion (λ z. b ≢ z) (all_but_last_of y r)
differs x once l0 a0 b c0 r0 m l a y [] n h = tt
differs x once l0 a0 b c0 r0 m l a y (z ∷ r) n h = grind (arith, once, later, differs x once l0 a0 b c0 r0 m (a ∷ l) y z r (later n) (omega arith))

apart_at : (x : List Point) (once : (l : List Point) (a b c : Point) (r l' : List Point) (a' c' : Point) (r' : List Point) → At l a b (c ∷ r) x → At l' a' b (c' ∷ r') x → l ≡ l')
    (l : List Point) (a b : Point) (r : List Point) → At l a b r x → Apart (all_but_last_of b r)
apart_at x once l a b [] m = tt
apart_at x once l a b (c ∷ r) m = (differs x once l a b c r m (a ∷ l) b c r (later m) (omega arith), apart_at x once (a ∷ l) b c r (later m))

-- the interior positions of a piece are apart: what the direction law asks
pub interior_apart : (ls : List Stroke) (x : List Point) → IsPieceOf ls x → Apart (interior_of x)
interior_apart ls [] h = tt
interior_apart ls (a ∷ []) h = tt
interior_apart ls (a ∷ (b ∷ r)) h = apart_at (a ∷ (b ∷ r)) (λ l a' b' c r1 l' a2 c' r2 m n. interior ls (a ∷ (b ∷ r)) h m n) [] a b r first
