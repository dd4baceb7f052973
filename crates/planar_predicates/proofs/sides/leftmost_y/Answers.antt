use Rattle.std.proofs.Common.{◌≤ℤ◌, FitsSigned, sym, subst, rules, arith}
use Rattle.std.proofs.lemmas.Int.{ints, to_z-of_z}
use mir.Syntax.{w64}
use Rattle.planar_predicates.proofs.sides.leftmost_y.Goals as goal

pub returns-then-x-clause-forth : goal.returns-then-x-clause-forth
returns-then-x-clause-forth c = λ d k w h.
    let f : FitsSigned w64 c.clamped.result = search rules in
    subst (λ z. (k ≤ℤ z)) (sym (to_z-of_z w64 c.clamped.result f)) (c.clamped.ensures.over k w (omega (arith, ints, h)))
