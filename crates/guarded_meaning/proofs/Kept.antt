-- What each corner that goes leaves true is true of the reduced arcs.
use Rattle.std.proofs.Common.{◌≡◌, ℕ, zero, suc, true, nat_lt, List, [], ◌∷◌, map, Option, Some, None, refl, ap, ◌∙◌, arith}
use Rattle.guarded_meaning.proofs.Names.{and_parts, AllByRecursion, filter, all_weaker, holds_of_chosen, map_some, Point, Holds, numbered_points, Vertex, numbered, ArcCorner, all_corners, left_by, points_of, earlier, first_corner, Guard, goes, next_arcs, eliminate_arcs}
use Rattle.guarded_meaning.proofs.Lists.{passed_all}

-- ---- the first of several

pub earlier_holds : (P : ArcCorner → Type 0) (c d : Option ArcCorner) → Holds P c → Holds P d → Holds P (earlier c d)
earlier_holds P c d h k = grind (arith, holds_of_chosen)

pub first_holds : (P : ArcCorner → Type 0) (cs : List ArcCorner) → AllByRecursion P cs → Holds P (first_corner cs)
first_holds P [] h = tt
first_holds P (c ∷ cs) h = earlier_holds P (Some c) (first_corner cs) h.0 (first_holds P cs h.1)

-- what holds of what any corner leaves that may go holds of what is left by the next one
pub next_holds : (guard : Guard) (t : ℕ) (Q : List (List Vertex) → Type 0) (arcs : List (List Vertex)) → AllByRecursion (λ c. guard arcs c ≡ true → Q (left_by arcs c)) (all_corners 0 arcs) → Holds Q (next_arcs guard t arcs)
next_holds guard t Q arcs h = made (first_corner (filter (goes guard t arcs) (all_corners 0 arcs))) (first_holds (λ c. Q (left_by arcs c)) (filter (goes guard t arcs) (all_corners 0 arcs))
    (passed_all (λ c. Q (left_by arcs c)) (goes guard t arcs) (all_corners 0 arcs)
    (all_weaker (λ c. guard arcs c ≡ true → Q (left_by arcs c)) (λ c. goes guard t arcs c ≡ true → Q (left_by arcs c)) (λ c f e. f (and_parts (nat_lt c.corner.area t) (guard arcs c) e).1) (all_corners 0 arcs) h)))
  where
    made : (o : Option ArcCorner) → Holds (λ c. Q (left_by arcs c)) o → Holds Q (map_some (left_by arcs) o)
    made None k = tt
    made (Some c) k = k

-- ---- what each step keeps

module _ (guard : Guard) (t : ℕ) (I : List (List Vertex) → Type 0)
    (step : (arcs : List (List Vertex)) → I arcs → AllByRecursion (λ c. guard arcs c ≡ true → I (left_by arcs c)) (all_corners 0 arcs)) where
  pub eliminate_keeps : (n : ℕ) (arcs : List (List Vertex)) → I arcs → I (eliminate_arcs guard n t arcs)
  eliminate_keeps zero arcs h = h
  eliminate_keeps (suc n) arcs h = grind (arith, eliminate_keeps n, next_holds guard t I arcs (step arcs h))

-- ---- at first

pub points_numbered : (arcs : List (List Point)) → points_of (map (numbered 0) arcs) ≡ arcs
points_numbered [] = refl
points_numbered (ps ∷ arcs) = ap (λ qs. qs ∷ points_of (map (numbered 0) arcs)) (numbered_points 0 ps) ∙ ap (λ more. ps ∷ more) (points_numbered arcs)
