use Rattle.std.proofs.Common.{drop, length, Some, subst, ap, refl, sym, ◌∙◌}
use Rattle.std.proofs.lemmas.Option.{slice_get_past, slice_get_read}
use Rattle.geometry.specs.Joins.{arc_at}
use Rattle.topo_model.specs.Passing.{counted, missing_after, Passes}
use Rattle.topo_model.proofs.Passed.{arc_named, counted_at, no_arc_named, nothing_passed}
use Rattle.topo_model.proofs.counting.Need.pass_ref.Goals as goal

pub pass_arc-requires-clause-count : goal.pass_arc-requires-clause-count
pass_arc-requires-clause-count c =
    let found = c.in-Some.ensures.lookup in
    counted_at c.args.arcs.now c.args.counts.now c.index-number.result c.in-Some.arc.now c.requires.counts
    (slice_get_read c.args.arcs.now (length c.args.arcs.now) c.index-number.result c.in-Some.arc.now refl found.3.0 found.1)
    ∙ ap counted (sym c.as_slice.ensures)

pub returns-in-Some : goal.returns-in-Some
returns-in-Some c =
    let found = c.in-Some.ensures.lookup in
    subst (λ a. Passes (drop c.args.from a) c.args.self.now c.pass_arc.new.self)
    (arc_named c.args.arcs.now c.args.index c.index-number.result c.reversed.result c.as_slice.result.now c.index-number.ensures c.reversed.ensures
    (slice_get_read c.args.arcs.now (length c.args.arcs.now) c.index-number.result c.in-Some.arc.now refl found.3.0 found.1 ∙ ap Some (sym c.as_slice.ensures)))
    c.pass_arc.ensures

pub returns-in_default : goal.returns-in_default
returns-in_default c =
    nothing_passed missing_after c.args.from (arc_at c.args.arcs.now c.args.index) c.args.self.now
    (no_arc_named c.args.arcs.now c.args.index c.index-number.result c.index-number.ensures (slice_get_past c.args.arcs.now c.index-number.result c.in_default.ensures.lookup.3))
