use Rattle.std.proofs.Common.{arith}
use Rattle.segment_crossings.specs.Marks.{IsMark}
use Rattle.segment_crossings.proofs.Marks.{off_never}
use Rattle.segment_crossings.proofs.Trees.{none_in}
use Rattle.segment_crossings.proofs.tree.is_clear_of.Goals as goal

pub returns-then-are_apart : goal.returns-then-are_apart
returns-then-are_apart c = λ e. none_in _ c.args.line.now _ c.requires.node (λ r a b. c.are_apart.ensures c.if-are_apart.true _ _ c.extent_of.ensures (c.requires.node.holds r a b))

pub returns-then-is_off : goal.returns-then-is_off
returns-then-is_off c = λ e. none_in _ c.args.line.now _ c.requires.node (λ r a b. off_never _ _ _ (c.requires.node.holds r a b) (c.is_off.ensures c.if-is_off.true))

pub returns-else-is_off : goal.returns-else-is_off
returns-else-is_off c =
    let there = c.in-Some.ensures.lookup in
    let mark : IsMark c.args.tree.now.lines.items c.in-Some.mark.now = rw (there.1, c.deref.ensures.value) (c.requires.tree.marks c.args.node.now.number c.in-Some.mark.now (rw c.deref.ensures.value at there.3.0)) in
    λ e. none_in _ c.args.line.now _ c.requires.node (λ r a b. c.rules_out.ensures e _ (mark.each r (omega (arith, a, c.if-mark-node.true)) (omega (arith, b, c.if-mark-node-2.true))))
