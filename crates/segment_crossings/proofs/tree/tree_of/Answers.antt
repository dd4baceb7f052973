use Rattle.std.proofs.Common.{length, ap, arith}
use Rattle.segment_crossings.proofs.tree.tree_of.Goals as goal

pub returns-clause-tree : goal.returns-clause-tree
returns-clause-tree c = record {
  nodes = rw c.deref.ensures.value at c.in_ok-root.ensures.nodes;
  marks = rw c.deref-3.ensures.value at c.in_ok-marks.ensures;
  root = rw c.deref.ensures.value at c.in_ok-root.ensures.node;
  first = ap (λ x. x.first) c.in_ok-root.ensures.run;
  end = omega (arith, ap (λ x. x.end) c.in_ok-root.ensures.run, c.len.ensures, c.deref.ensures.len, ap length c.deref.ensures.value);
}
