use Rattle.std.proofs.Common.{arith}
use Rattle.segment_crossings.proofs.Trees.{in_parts}
use Rattle.segment_crossings.proofs.counting.+count_under.Goals as goal

pub returns-in-Some : goal.returns-in-Some
returns-in-Some t c =
    let e = in_parts c.args.tree.now.lines.items _ _ _ c.in-Some.ensures.parts c.args.line.now in
    omega (arith, c.count_under-count.ensures, c.count_under.ensures, e)
