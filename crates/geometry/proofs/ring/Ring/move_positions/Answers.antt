use Rattle.std.proofs.Common.{map, length, sym, ap, ◌∙◌}
use Rattle.geometry.proofs.Moved.{refilled, ring_moved}
use Rattle.geometry.proofs.ring.Ring.move_positions.Goals as goal

pub invariant_of-self : goal.invariant_of-self
invariant_of-self g c =
    let f = g.M.Moves.goes_to c.args.moves.now in
    rw (refilled f c.self.inside.positions.len c.self.inside.positions.items c.move_positions.new.positions
    (sym c.as_mut_slice.ensures.len ∙ ap length c.as_mut_slice.ensures.value) (c.move_positions.ensures ∙ ap (map f) c.as_mut_slice.ensures.value))
    (ring_moved f c.self.inside.positions.items c.self.invariant)
