use Rattle.std.proofs.Common.{ap, ◌∙◌, arith}
use Rattle.segment_crossings.specs.Marks.{Covers}
use Rattle.segment_crossings.proofs.Lines.{one_more}
use Rattle.segment_crossings.proofs.mark.mark_over.Goals as goal

pub loop-rank-preserved : goal.loop-rank-preserved
loop-rank-preserved c = record {
  run = c.widened-mark.ensures.run ∙ c.loop-rank.invariant.run;
  each = one_more (Covers c.widened-mark.result) c.args.lines.now c.args.run.first c.loop-rank.rank c.read_line.result.now c.read_line.ensures (λ r a b. c.widened-mark.ensures.kept _ (c.loop-rank.invariant.each r a b)) c.widened-mark.ensures.line;
}

pub returns : goal.returns
returns c = record { each = λ r a b. c.loop-rank.invariant.each r (rw c.loop-rank.invariant.run at a) (omega (arith, ap (λ x. x.end) c.loop-rank.invariant.run, b, c.loop-rank-test.false)) }
