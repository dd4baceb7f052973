use Rattle.std.proofs.Common.{Some, sym, ap, ◌∙◌}
use Rattle.grid_snap.proofs.Least.{none_over, over_bounds, axis_cast, both_axes}
use Rattle.grid_snap.proofs.grid.Grid.within.Goals as goal

pub returns-in_err-bounds : goal.returns-in_err-bounds
returns-in_err-bounds c ps e = c.from_residual.ensures ∙ sym (none_over c.args.count ps (e ∙ c.in_err-bounds.was))

pub returns : goal.returns
returns c ps is =
    let e = is ∙ c.in_ok-bounds.was in
    let b = rw c.in_ok-bounds.was at c.requires.bounds in
    ap Some (both_axes
    (axis_cast c.args.count c.in_ok-bounds.bounds.left c.in_ok-bounds.bounds.right c.axis_over-across.result b.x c.axis_over-across.ensures.value)
    (axis_cast c.args.count c.in_ok-bounds.bounds.bottom c.in_ok-bounds.bounds.top c.axis_over-up.result b.y c.axis_over-up.ensures.value))
    ∙ sym (over_bounds c.args.count ps c.in_ok-bounds.bounds e)
