use Rattle.std.proofs.Common.{◌≡◌, ◌≤ℤ◌, ℤ, FitsSigned, to_z, of_z, sym, subst, ap, ◌∙◌, rules}
use Rattle.std.proofs.lemmas.Int.{to_z-of_z}
use mir.Syntax.{w64}
use Rattle.geometry.specs.Areas.{cross}
use Rattle.geometry.specs.Points.{Point}
use Rattle.planar_predicates.proofs.Beyond.{no_farther}
use Rattle.planar_predicates.proofs.sides.leftmost.Goals as goal

abbrev point : ℤ → ℤ → Point
point x y = record { x = x; y = y }

pub returns-clause-leftmost : goal.returns-clause-leftmost
returns-clause-leftmost c = λ q w h.
    let f : FitsSigned w64 c.leftmost_x.result = search rules in
    let g : FitsSigned w64 c.leftmost_y.result = search rules in
    let e : c.at.result ≡ point c.leftmost_x.result c.leftmost_y.result =
    c.at.ensures ∙ ap (λ z. point z (to_z w64 (of_z w64 c.leftmost_y.result))) (to_z-of_z w64 c.leftmost_x.result f) ∙ ap (λ z. point c.leftmost_x.result z) (to_z-of_z w64 c.leftmost_y.result g) in
    subst (λ (r : Point). (cross c.args.from c.args.to q ≤ℤ cross c.args.from c.args.to r)) (sym e)
    (no_farther c.args.from c.args.to q (point c.leftmost_x.result c.leftmost_y.result)
    ((λ d. c.leftmost_x.ensures.up d q.x w.0 h.low_x), (λ d. c.leftmost_x.ensures.down d q.x w.0 h.high_x))
    ((λ d. c.leftmost_y.ensures.forth d q.y w.1 h.high_y), (λ d. c.leftmost_y.ensures.back d q.y w.1 h.low_y)))
