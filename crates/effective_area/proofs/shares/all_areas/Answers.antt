use Rattle.std.proofs.Common.{ap, sym, ◌∙◌, ◌++◌}
use Rattle.std.specs.List.{filter_map}
use Rattle.effective_area.specs.Shares.{area_of}
use Rattle.effective_area.proofs.Gathered.{lines_more}
use Rattle.effective_area.proofs.shares.all_areas.Goals as goal

pub arcs-preserved : goal.arcs-preserved
arcs-preserved c =
    c.in_ok-push_areas.ensures
    ∙ ap (λ l. c.arcs.areas.items ++ filter_map area_of l) c.as_slice.ensures.value
    ∙ ap (λ l. l ++ filter_map area_of c.weights-item.result.items) c.arcs.invariant
    ∙ sym (lines_more (λ w. w.items) c.args.arcs.now c.arcs.weights-index c.weights-item.result c.arcs-test.true c.weights-item.is)
