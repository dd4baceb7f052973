use Rattle.std.proofs.Common.{◌-◌, map, refl, ap, sym, ◌∙◌, arith}
use Rattle.segment_crossings.specs.Lines.{as_segment}
use Rattle.segment_crossings.proofs.Gathered.{arc_put, line_left_out, line_put}
use Rattle.segment_crossings.proofs.gathering.put_lines.Goals as goal
use Rattle.segment_crossings.proofs.gathering.put_lines.Goals.{then-not-is_same+in_ok-push, else-not-is_same}

pub loop-next-preserved : goal.loop-next-preserved
loop-next-preserved c = elim c.if-not-is_same.branch [
  | then-not-is_same+in_ok-push w ↦ line_put c.loop-next.lines.items c.args.arc.now c.loop-next.next c.index-arc-next.result c.index-arc-next-in-loop-next.result _ (omega arith) c.loop-next-test.true c.index-arc-next.is c.index-arc-next-in-loop-next.is c.loop-next.invariant
      c.if-not-is_same.lines.items (record { from = c.index-arc-next.result; to = c.index-arc-next-in-loop-next.result }) (sym c.is_same.ensures ∙ w.if-not-is_same.true) refl refl (ap (λ v. v.items) w.lines-is ∙ w.in_ok-push.ensures.items)
  | else-not-is_same w ↦ line_left_out c.loop-next.lines.items c.args.arc.now c.loop-next.next c.index-arc-next.result c.index-arc-next-in-loop-next.result _ (omega arith) c.loop-next-test.true c.index-arc-next.is c.index-arc-next-in-loop-next.is c.loop-next.invariant
      c.if-not-is_same.lines.items (sym c.is_same.ensures ∙ w.if-not-is_same.false) (ap (λ v. v.items) w.lines-is)
]

pub returns : goal.returns
returns c = arc_put (map as_segment c.loop-next.lines.items) c.args.arc.now (c.loop-next.next - 1) _ (omega (arith, c.loop-next-test.false)) c.loop-next.invariant
