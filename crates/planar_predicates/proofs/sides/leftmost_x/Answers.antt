use Rattle.std.proofs.Common.{◌≤ℤ◌, FitsSigned, sym, subst, rules, arith}
use Rattle.std.proofs.lemmas.Int.{ints, to_z-of_z}
use mir.Syntax.{w64}
use Rattle.planar_predicates.proofs.sides.leftmost_x.Goals as goal

pub returns-else-y-clause-down : goal.returns-else-y-clause-down
returns-else-y-clause-down c = λ d k w h.
    let f : FitsSigned w64 c.clamped-else-y.result = search rules in
    subst (λ z. (k ≤ℤ z)) (sym (to_z-of_z w64 c.clamped-else-y.result f)) (c.clamped-else-y.ensures.over k w (omega (arith, ints, h)))
