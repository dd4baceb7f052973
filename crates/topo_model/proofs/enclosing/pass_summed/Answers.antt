use Rattle.std.proofs.Common.{◌≡◌, true, ◌∙◌, sym, rules}
use Rattle.topo_model.proofs.Enclosed.{arc_passed}
use Rattle.topo_model.proofs.enclosing.pass_summed.Goals as goal

pub returns-clause-sums : goal.returns-clause-sums
returns-clause-sums c =
    let next : c.is_next.result ≡ true = search rules in
    arc_passed c.args.sum.now c.args.line.now c.pass_line.new.self c.args.reversed c.args.arc.now c.args.from c.position_at.result c.position_at-end.result (search rules) c.position_at.ensures
    c.position_at-end.ensures (sym c.is_next.ensures ∙ next) c.requires.line.0 c.pass_line.ensures
