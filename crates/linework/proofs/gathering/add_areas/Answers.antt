use Rattle.std.proofs.Common.{ap}
use Rattle.linework.proofs.Gathered.{parts_turn, rings}
use Rattle.linework.proofs.gathering.add_areas.Goals as goal

pub loop-number-preserved : goal.loop-number-preserved
loop-number-preserved c =
    parts_turn rings c.args.address.now c.args.lines.now c.loop-number.lines c.add_rings.new.lines c.args.areas.now c.loop-number.number c.index-areas-number.result
    c.in_ok-part.part (rings c.as_slice.result.now) c.loop-number-test.true c.index-areas-number.is c.loop-number.invariant c.in_ok-part.ensures
    (ap rings c.as_slice.ensures) c.in_ok-add_rings.ensures
