use Rattle.segment_crossings.specs.Marks.{IsIn}
use Rattle.segment_crossings.proofs.Lines.{one_more}
use Rattle.segment_crossings.proofs.Marks.{wider}
use Rattle.segment_crossings.proofs.run.extent_round.Goals as goal

pub loop-rank-preserved : goal.loop-rank-preserved
loop-rank-preserved c = one_more (IsIn c.joined-extent.result) c.args.lines.now c.args.run.first c.loop-rank.rank c.read_line.result.now c.read_line.ensures
    (λ r a b. wider _ _ _ c.joined-extent.ensures.first (c.loop-rank.invariant r a b)) (wider _ _ _ c.joined-extent.ensures.second c.extent_of.ensures)
