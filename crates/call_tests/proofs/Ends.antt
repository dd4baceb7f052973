-- The first and the last cell of each arc.
use Rattle.std.proofs.Common.{ℕ, ◌-◌, List, [], ◌∷◌, map, length, refl}
use Rattle.geometry.specs.Points.{Point}
use Rattle.build_meaning.specs.Simplified.{EachFromFirstToLast}

pub ends_reach : (arcs : List (List Point)) → EachFromFirstToLast (map (λ cells. 0 ∷ (length cells - 1) ∷ []) arcs) arcs
ends_reach [] = tt
ends_reach (cells ∷ arcs) = ((refl, refl), ends_reach arcs)
