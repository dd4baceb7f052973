use Rattle.std.proofs.Common.{arith, ◌∙◌}
use Rattle.junctions.specs.Answers.{is_member}
use Rattle.cutter.proofs.Alone.{at_most_one, count_step}
use Rattle.cutter.proofs.SliceLaws.{least_step}
use Rattle.cutter.proofs.starting.least_cut.Goals as goal

pub loop-i-preserved : goal.loop-i-preserved
loop-i-preserved c =
    let cut = is_member c.args.vertices.now.cuts in
    let x = c.index-positions-i.result in (
      c.with_cut.ensures.least ∙ least_step cut c.args.positions.now c.loop-i.i x c.loop-i.best c.loop-i-test.true c.index-positions-i.is c.loop-i.invariant.0,
      c.with_cut.ensures.count ∙ count_step cut c.args.positions.now c.loop-i.i x c.loop-i.count c.loop-i-test.true c.index-positions-i.is c.loop-i.invariant.1,
      omega (arith, c.with_cut.ensures.count, at_most_one (cut x), c.loop-i.invariant.2),
    )
