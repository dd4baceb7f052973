use Rattle.std.proofs.Common.{◌+◌, ◌-◌, List, ap, ◌∙◌, arith}
use Rattle.segment_crossings.specs.declared.line.Line.{Line}
use Rattle.segment_crossings.specs.Lines.{line_at}
use Rattle.segment_crossings.specs.Trees.{bad_in}
use Rattle.segment_crossings.proofs.Across.{across_ahead, across_fewer}
use Rattle.segment_crossings.proofs.Lines.{later_fewer}
use Rattle.segment_crossings.proofs.counting.count_each.Goals as goal

pub loop-rank-preserved : goal.loop-rank-preserved
loop-rank-preserved c =
    let ls = c.args.tree.now.lines.items in
    let r = c.loop-rank.rank in
    let end = c.args.run.end in
    let y = c.args.node.now.run in
    let order = c.requires.node.order in
    let read = c.read_line.ensures ∙ ap (λ (xs : List Line). line_at xs r) c.deref.ensures.value in
    let same = ap (λ l. bad_in ls l y) read in
    let first = across_ahead ls r end y.first c.loop-rank-test.true in
    let last = across_ahead ls r end y.end c.loop-rank-test.true in
    let fewer = across_fewer ls (end - (r + 1)) (r + 1) y.first y.end order in
    let later = later_fewer ls (line_at ls r) y.first y.end order in
    let e = c.count_under-count.ensures in
    record { count = omega (arith, e); all = omega (arith, c.loop-rank.invariant.all, e, same, first, last, fewer, later) }
