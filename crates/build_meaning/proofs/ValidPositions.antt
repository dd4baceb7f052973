-- Each position of an arc is a position of the layers.
use Rattle.std.proofs.Common.{ℕ, ◌+◌, Bool, List, [], ◌∷◌, drop, take, arith}
use Rattle.build_meaning.proofs.Names.{AllByRecursion, all_append, all_of, each_of, all_drop, all_take, Point, IsPosition, Featured, option_points, features_points, Stroke, linework, from_flat, arc_is_piece, arcs_of, IsSound, AreSound, Named, layers_of, pieces_from, split_at, turned, pieces_of, pieces, layers_points}
use Rattle.linework.proofs.Positions.{none_is_new}
use Rattle.cutter.specs.Pieces.{joined}

-- ---- pieces of a line

module _ (X : Point → Type 0) where
  abbrev Have : List (List Point) → Type 0
  Have xs = AllByRecursion (λ x. AllByRecursion X x) xs

  all_joined : (b : Bool) (p q : Point) (xs : List (List Point)) → X p → X q → Have xs → Have (joined b p q xs)
  all_joined b p q xs h k m = grind arith

  all_from : (cut : Point → Bool) (p : Point) (ps : List Point) → X p → AllByRecursion X ps → Have (pieces_from cut p ps)
  all_from cut p [] h k = tt
  all_from cut p (q ∷ ps) h k = all_joined (cut q) p q (pieces_from cut q ps) h k.0 (all_from cut q ps k.0 k.1)

  all_split : (cut : Point → Bool) (ps : List Point) → AllByRecursion X ps → Have (split_at cut ps)
  all_split cut ps h = grind (arith, all_from)

  all_turned : (k : ℕ) (ps : List Point) → AllByRecursion X ps → AllByRecursion X (turned k ps)
  all_turned k ps h = all_append X (drop k ps) (drop 1 (take (k + 1) ps)) (all_drop X k ps h) (all_drop X 1 (take (k + 1) ps) (all_take X (k + 1) ps h))

  all_pieces_of : (lines : List Stroke) (s : Stroke) → AllByRecursion X s.positions → AllByRecursion (λ x. AllByRecursion X x) (pieces_of lines s)
  all_pieces_of lines s h = grind (arith, all_split, all_turned)

  pub arcs_have : (ls : Named) → AllByRecursion X (layers_points (layers_of ls)) → AllByRecursion (λ x. AllByRecursion X x) (arcs_of (pieces (linework (layers_of ls))))
  arcs_have ls h =
      let lines = linework (layers_of ls) in
      all_of (AllByRecursion X) (arcs_of (pieces lines))
      (λ x k. let r = from_flat (pieces_of lines) x lines (arc_is_piece x (pieces lines) k) in
      each_of (AllByRecursion X) (pieces_of lines r.0) x
      (all_pieces_of lines r.0 (all_of X r.0.positions (λ p m. each_of X (layers_points (layers_of ls)) p h (none_is_new (layers_of ls) r.0 p r.1 m)))) r.2)

-- ---- positions of layers

features_placed : (fs : List Featured) → AllByRecursion IsSound fs → AllByRecursion IsPosition (features_points fs)
features_placed [] h = tt
features_placed (f ∷ fs) h = all_append IsPosition (option_points f.shape) (features_points fs) h.0.places (features_placed fs h.1)

layers_placed : (ls : Named) → AreSound ls → AllByRecursion IsPosition (layers_points (layers_of ls))
layers_placed [] h = tt
layers_placed (l ∷ ls) h = all_append IsPosition (features_points l.1.features) (layers_points (layers_of ls)) (features_placed l.1.features h.0) (layers_placed ls h.1)

pub arcs_placed : (ls : Named) → AreSound ls → AllByRecursion (λ x. AllByRecursion IsPosition x) (arcs_of (pieces (linework (layers_of ls))))
arcs_placed ls sound = arcs_have IsPosition ls (layers_placed ls sound)
