use Rattle.std.proofs.Common.{ap, true}
use Rattle.linework.proofs.Gathered.{parts_turn, single}
use Rattle.linework.proofs.gathering.add_rings.Goals as goal

pub loop-number-preserved : goal.loop-number-preserved
loop-number-preserved c =
    parts_turn (single true) c.args.address.now c.args.lines.now c.loop-number.lines c.add_line_or_ring.new.lines c.args.rings.now c.loop-number.number c.index-rings-number.result
    c.in_ok-part.part (single true c.as_slice.result.now) c.loop-number-test.true c.index-rings-number.is c.loop-number.invariant c.in_ok-part.ensures
    (ap (single true) c.as_slice.ensures.value) c.in_ok-add_line_or_ring.ensures
