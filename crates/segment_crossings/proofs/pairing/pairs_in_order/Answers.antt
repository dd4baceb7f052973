use Rattle.std.proofs.Common.{◌+◌, ◌++◌, ◌≤◌, drop, length, map, take, ap, subst, ◌∙◌, arith}
use Rattle.segment_crossings.specs.Crossings.{crossing_pairs}
use Rattle.segment_crossings.specs.declared.line.Line.{Line}
use Rattle.segment_crossings.specs.Lines.{as_segment, bad_from}
use Rattle.segment_crossings.proofs.Crossings.{left_out, pairs_put}
use Rattle.segment_crossings.proofs.pairing.pairs_in_order.Goals as goal
use Rattle.segment_crossings.proofs.pairing.pairs_in_order.Goals.{then-not-is_alone+in_ok-put_pairs, else-not-is_alone}

pub loop-rank-preserved : goal.loop-rank-preserved
loop-rank-preserved c =
    let ls = c.args.lines.now in
    let near = c.args.tree.now.lines.items in
    let r = c.loop-rank.rank in
    let old = c.loop-rank.pairs.items in
    elim c.if-not-is_alone.branch [
      | then-not-is_alone+in_ok-put_pairs w ↦
          let items = ap (λ v. v.items) w.pairs-is in
          record {
            few = omega (arith, ap length items, w.in_ok-put_pairs.ensures.few);
            all = pairs_put ls near r c.loop-rank-test.true c.requires.same c.args.most old _ _ (items ∙ w.in_ok-put_pairs.ensures.put) c.loop-rank.invariant.all;
          }
      | else-not-is_alone w ↦
          let items = ap (λ v. v.items) w.pairs-is in
          let few = subst (λ (l : Line). bad_from near l 0 ≤ 1) c.read_line.ensures (c.is_alone.ensures w.if-not-is_alone.false) in
          record {
            few = omega (arith, ap length items, c.loop-rank.invariant.few);
            all = ap (λ zs. take c.args.most (zs ++ crossing_pairs (map as_segment (drop (r + 1) ls)))) items ∙ left_out ls near r c.loop-rank-test.true c.requires.same c.args.most old _ few c.loop-rank.invariant.all;
          }
    ]
