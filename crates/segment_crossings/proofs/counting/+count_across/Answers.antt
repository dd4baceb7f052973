use Rattle.std.proofs.Common.{arith}
use Rattle.segment_crossings.proofs.Trees.{first_parts, second_parts}
use Rattle.segment_crossings.proofs.counting.+count_across.Goals as goal

pub returns-in-Some-clause-count : goal.returns-in-Some-clause-count
returns-in-Some-clause-count t c = λ s.
    let e = first_parts c.args.tree.now.lines.items _ _ _ c.in-Some.ensures.parts c.args.other.now.run c.requires.other.order in
    omega (arith, e, c.count_across.ensures.count s, c.count_across-count.ensures.count (c.count_across.ensures.left s))

pub returns-in-Some-parts_of-clause-count : goal.returns-in-Some-parts_of-clause-count
returns-in-Some-parts_of-clause-count t c = λ s.
    let e = second_parts c.args.tree.now.lines.items _ _ _ c.in-Some-parts_of.ensures.parts c.args.node.now.run in
    omega (arith, e, c.count_across-in-Some-parts_of.ensures.count s, c.count_across-count-in-Some-parts_of.ensures.count (c.count_across-in-Some-parts_of.ensures.left s))
