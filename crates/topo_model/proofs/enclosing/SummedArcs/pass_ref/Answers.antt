use Rattle.std.proofs.Common.{drop, length, slice_get, Some, subst, ap, refl, sym, ◌∙◌}
use Rattle.std.proofs.lemmas.Option.{slice_get_past, slice_get_read}
use Rattle.geometry.specs.Joins.{arc_at}
use Rattle.topo_model.specs.Passing.{is_sum, sum_with, Sums}
use Rattle.topo_model.proofs.Enclosed.{sum_at}
use Rattle.topo_model.proofs.Passed.{arc_named, no_arc_named, nothing_passed}
use Rattle.topo_model.proofs.enclosing.SummedArcs.pass_ref.Goals as goal

pub pass_summed-requires-clause-line : goal.pass_summed-requires-clause-line
pass_summed-requires-clause-line c =
    let found = c.in-Some.ensures.lookup in
    let line = c.in-Some-get.ensures.lookup in
    subst (λ a. is_sum a c.in-Some-get.line.now) (sym c.as_slice.ensures)
    (sum_at c.self.inside.arcs.now c.self.inside.sums.items c.index-number.result c.in-Some.arc.now c.in-Some-get.line.now c.self.invariant.1
    (slice_get_read c.self.inside.arcs.now (length c.self.inside.arcs.now) c.index-number.result c.in-Some.arc.now refl found.3.0 found.1)
    (ap (λ sums. slice_get sums c.index-number.result) (sym c.deref.ensures.value) ∙ slice_get_read c.deref.result.now (length c.deref.result.now) c.index-number.result c.in-Some-get.line.now refl line.3.0 line.1))

pub returns-in-Some-get-clause-sums : goal.returns-in-Some-get-clause-sums
returns-in-Some-get-clause-sums c =
    let found = c.in-Some.ensures.lookup in
    subst (λ a. Sums (drop c.args.from a) c.args.sum.now c.pass_summed.new.sum)
    (arc_named c.self.inside.arcs.now c.args.index c.index-number.result c.reversed.result c.as_slice.result.now c.index-number.ensures c.reversed.ensures
    (slice_get_read c.self.inside.arcs.now (length c.self.inside.arcs.now) c.index-number.result c.in-Some.arc.now refl found.3.0 found.1 ∙ ap Some (sym c.as_slice.ensures))
    ∙ ap (λ arcs. arc_at arcs c.args.index) c.self.view_is)
    c.pass_summed.ensures.sums

pub returns-in-None-clause-sums : goal.returns-in-None-clause-sums
returns-in-None-clause-sums c =
    let found = c.in-Some.ensures.lookup in
    subst (λ a. Sums (drop c.args.from a) c.args.sum.now c.pass_arc.new.sum)
    (arc_named c.self.inside.arcs.now c.args.index c.index-number.result c.reversed-in-None.result c.as_slice-in-None.result.now c.index-number.ensures c.reversed-in-None.ensures
    (slice_get_read c.self.inside.arcs.now (length c.self.inside.arcs.now) c.index-number.result c.in-Some.arc.now refl found.3.0 found.1 ∙ ap Some (sym c.as_slice-in-None.ensures))
    ∙ ap (λ arcs. arc_at arcs c.args.index) c.self.view_is)
    c.pass_arc.ensures.sums

pub returns-in_default-clause-sums : goal.returns-in_default-clause-sums
returns-in_default-clause-sums c =
    nothing_passed sum_with c.args.from (arc_at c.args.self.now c.args.index) c.args.sum.now
    (ap (λ arcs. arc_at arcs c.args.index) (sym c.self.view_is) ∙ no_arc_named c.self.inside.arcs.now c.args.index c.index-number.result c.index-number.ensures (slice_get_past c.self.inside.arcs.now c.index-number.result c.in_default.ensures.lookup.3))
