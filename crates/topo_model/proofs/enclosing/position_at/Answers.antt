use Rattle.std.proofs.Common.{◌≡◌, get_or, FitsSigned, subst, sym, ◌∙◌, rules}
use Rattle.std.proofs.lemmas.Int.{to_z-of_z}
use Rattle.topo_model.specs.Passing.{directed}
use Rattle.topo_model.proofs.Enclosed.{same_position}
use Rattle.topo_model.proofs.Passed.{directed_at}
use Rattle.topo_model.proofs.enclosing.position_at.Goals as goal
use mir.Syntax.{w64}

pub returns : goal.returns
returns c =
    let x : FitsSigned w64 c.x.result = search rules in
    let y : FitsSigned w64 c.y.result = search rules in
    let same : c.at.result ≡ c.index-arc-i.result =
    same_position c.at.result c.index-arc-i.result _ _ (to_z-of_z w64 c.x.result x ∙ c.x.ensures.x) (to_z-of_z w64 c.y.result y ∙ c.y.ensures.y) c.at.ensures in
    subst (λ p. p ≡ get_or (directed c.args.reversed c.args.arc.now) c.args.k p) (sym same)
    (directed_at c.args.reversed c.args.arc.now c.args.k c.index_in-i.result c.index-arc-i.result c.requires.within c.index_in-i.ensures.index c.index-arc-i.is)
