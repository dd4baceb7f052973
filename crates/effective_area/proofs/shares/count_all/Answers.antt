use Rattle.std.proofs.Common.{ap, arith, length, length-append, map, take}
use Rattle.std.specs.List.{filter_map}
use Rattle.effective_area.specs.Shares.{area_of, interior_weights}
use Rattle.effective_area.proofs.Gathered.{lines_more}
use Rattle.effective_area.proofs.shares.count_all.Goals as goal

pub arcs-preserved : goal.arcs-preserved
arcs-preserved c =
    let so_far = interior_weights (map (λ w. w.items) (take c.arcs.weights-index c.args.arcs.now)) in
    let more = ap length (lines_more (λ w. w.items) c.args.arcs.now c.arcs.weights-index c.weights-item.result c.arcs-test.true c.weights-item.is) in
    let here = ap (λ l. length (filter_map area_of l)) c.as_slice.ensures.value in
    omega (arith, more, here, length-append so_far (filter_map area_of c.weights-item.result.items), c.arcs.invariant, c.saturating_add-count.ensures, c.count_areas.ensures)
