use Rattle.std.proofs.Common.{◌++◌, ◌∙◌, ap}
use Rattle.guarded_reduction.proofs.Flattened.{positions_more}
use Rattle.guarded_reduction.proofs.places.flattening.all_positions.Goals as goal

pub arcs-preserved : goal.arcs-preserved
arcs-preserved c = positions_more c.args.arcs.now c.arc-item.result c.arcs.arc-index c.arcs.all.items c.extend_from_slice.new.self.items c.arcs-test.true c.arc-item.is c.arcs.invariant
    (c.in_ok-extend_from_slice.ensures.items ∙ ap (λ l. c.arcs.all.items ++ l) c.as_slice.ensures)
