use Rattle.std.proofs.Common.{map, refl, ap, ◌∙◌}
use Rattle.geometry.proofs.Moved.{turns, refilled}
use Rattle.grid_snap.specs.Axes.{cell}
use Rattle.layer_topology.proofs.cells.arcs_on.Goals as goal

pub arcs-preserved : goal.arcs-preserved
arcs-preserved c =
    let f = cell c.args.grid.now in
    turns (map f) c.args.arcs.now c.arcs.arc-index c.arcs.arcs c.arc-item.result _ c.arcs-test.true c.arcs.invariant
    (refilled f _ _ _ refl (c.cells_on.ensures ∙ ap (map f) c.as_mut_slice.ensures.value))
