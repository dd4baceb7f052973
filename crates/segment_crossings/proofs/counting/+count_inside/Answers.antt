use Rattle.std.proofs.Common.{◌<◌, arith}
use Rattle.segment_crossings.proofs.Trees.{within_parts}
use Rattle.segment_crossings.proofs.counting.+count_inside.Goals as goal

pub returns-then-tree-clause-count : goal.returns-then-tree-clause-count
returns-then-tree-clause-count t c = λ s.
    let e = within_parts c.args.tree.now.lines.items _ _ _ c.in-Some.ensures.parts in
    omega (arith, e, c.count_each.ensures, c.count_inside-count-2.ensures.count s, c.count_inside-count.ensures.count (c.count_inside-count-2.ensures.left s))

pub returns-clause-count : goal.returns-clause-count
returns-clause-count t c = λ s.
    let e = within_parts c.args.tree.now.lines.items _ _ _ c.in-Some.ensures.parts in
    let left : 0 < c.count_inside-count-2.new.steps = c.count_across.ensures.left s in
    omega (arith, e, c.count_across.ensures.count s, c.count_inside-count-2.ensures.count left, c.count_inside-count.ensures.count (c.count_inside-count-2.ensures.left left))
