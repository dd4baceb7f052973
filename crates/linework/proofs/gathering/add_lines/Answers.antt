use Rattle.std.proofs.Common.{ap, false}
use Rattle.linework.proofs.Gathered.{parts_turn, single}
use Rattle.linework.proofs.gathering.add_lines.Goals as goal

pub loop-number-preserved : goal.loop-number-preserved
loop-number-preserved c =
    parts_turn (single false) c.args.address.now c.args.lines.now c.loop-number.lines c.add_line_or_ring.new.lines c.args.parts.now c.loop-number.number c.index-parts-number.result
    c.in_ok-part.part (single false c.as_slice.result.now) c.loop-number-test.true c.index-parts-number.is c.loop-number.invariant c.in_ok-part.ensures
    (ap (single false) c.as_slice.ensures) c.in_ok-add_line_or_ring.ensures
