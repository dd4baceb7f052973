-- The pieces that a split gives.
use Rattle.cutter.proofs.Names.{AllByRecursion, Point, Moves, last, joined, pieces_from}
use Rattle.std.proofs.Common.{◌≡◌, ◌≢◌, Bool, true, List, [], ◌∷◌, ap, arith}
use Rattle.cutter.proofs.Walks.{Run, IsPiece, stop, go}

module _ (cut : Point → Bool) (Via : Point → Point → Point → Type 0) where
  -- each three in a row
  abbrev pub Steps : Point → Point → List Point → Type 0
  Steps a b [] = Unit {0}
  Steps a b (c ∷ ps) = Via a b c × Steps b c ps

  pub record IsWalk (piece : List Point) : Type 0 where
    pub p : Point
    pub q : Point
    pub t : List Point
    pub is : piece ≡ p ∷ (q ∷ t)
    pub differ : p ≢ q
    pub walk : IsPiece cut Via p q t

  abbrev pub AllWalks : List (List Point) → Type 0
  AllWalks xs = AllByRecursion IsWalk xs

  -- a split begins with a run from its first two positions
  pub record Begins (p q : Point) (pieces : List (List Point)) : Type 0 where
    pub t : List Point
    pub rest : List (List Point)
    pub is : pieces ≡ (p ∷ (q ∷ t)) ∷ rest
    pub runs : Run cut Via p q t
    pub others : AllWalks rest

  pub begins : (p q : Point) (ps : List Point) → Steps p q ps → Moves p (q ∷ ps) → cut (last q ps) ≡ true → Begins p q (pieces_from cut p (q ∷ ps))
  begins p q [] s m c = record { t = []; rest = []; is = ap (λ b. joined b p q []) c; runs = stop c; others = tt }
  begins p q (r ∷ ps) s m c = grind (arith, stop, go, begins q r ps s.1 m.1 c)

  -- a split of a list from cut to cut gives walks from cut to cut
  pub all_walks : (p q : Point) (ps : List Point) → cut p ≡ true → Steps p q ps → Moves p (q ∷ ps) → cut (last q ps) ≡ true → AllWalks (pieces_from cut p (q ∷ ps))
  all_walks p q ps h s m c = grind (arith, begins)
