use Rattle.std.proofs.Common.{◌+◌, ◌-◌, ◌<◌, ◌≤◌, ◌∷◌, [], length, ap, sym, ◌∙◌, arith}
use Rattle.topo_model.specs.Passing.{directed, new_after}
use Rattle.topo_model.proofs.Passed.{arc_is_passed, counted_directed, enough_counted, passed_at_once}
use Rattle.topo_model.proofs.counting.Need.pass_arc.Goals as goal

pub overflow_sub-later : goal.overflow_sub-later
overflow_sub-later c =
    let within : c.args.from < length c.args.arc.now = omega arith in
    let enough = enough_counted (directed c.args.reversed c.args.arc.now) c.args.from c.args.count c.cell_at-first.result c.cell_at-next.result c.cell_at-end.result
    (c.requires.count ∙ sym (counted_directed c.args.reversed c.args.arc.now))
    (arc_is_passed c.args.reversed c.args.arc.now c.args.from c.cell_at-first.result c.cell_at-next.result c.cell_at-end.result c.requires.from within c.cell_at-first.ensures c.cell_at-next.ensures
    c.cell_at-end.ensures) in
    omega (arith, enough, c.new_after-before.ensures.count)

pub returns : goal.returns
returns c =
    let within : c.args.from < length c.args.arc.now = omega arith in
    let few : c.args.self.now.missing ≤ 4 = omega (arith, c.self.invariant, ap (λ v. v.missing) c.self.view_is) in
    passed_at_once c.args.self.now (directed c.args.reversed c.args.arc.now) c.args.from c.args.count c.new_after-before.result c.new_after-here.result _ c.cell_at-first.result c.cell_at-next.result
    c.cell_at-end.result few (c.requires.count ∙ sym (counted_directed c.args.reversed c.args.arc.now))
    (arc_is_passed c.args.reversed c.args.arc.now c.args.from c.cell_at-first.result c.cell_at-next.result c.cell_at-end.result c.requires.from within c.cell_at-first.ensures c.cell_at-next.ensures
    c.cell_at-end.ensures)
    c.new_after-before.ensures.count (c.new_after-here.ensures.count ∙ ap (λ v. new_after v.last (c.cell_at-next.result ∷ [])) c.self.view_is)
    (c.saturating_sub-self-inside.ensures ∙ ap (λ v. v.missing - (c.new_after-here.result + (c.args.count - (1 + c.new_after-before.result)))) c.self.view_is)
