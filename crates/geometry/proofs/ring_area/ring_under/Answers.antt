use Rattle.std.proofs.Common.{◌+◌, ◌+ℤ◌, drop, nat_lt, unsigned_abs, ap, ◌∙◌, arith}
use Rattle.geometry.specs.Areas.{sum_after}
use Rattle.geometry.proofs.RingAreas.{sum_stays, sum_ends}
use Rattle.geometry.proofs.ring_area.ring_under.Goals as goal

pub positions-preserved : goal.positions-preserved
positions-preserved c = record {
  sum = ap (λ s. s.sum +ℤ sum_after s.last (drop (c.positions.position-index + 1) c.args.ring.now)) c.pass.ensures.passed
      ∙ sum_stays c.positions.sum.last c.position-item.result c.args.ring.now c.positions.position-index c.positions.sum.sum _ c.positions-test.true c.position-item.is c.positions.invariant.sum;
  bound = omega (arith, c.pass.ensures.bound, c.positions.invariant.bound);
}

pub returns : goal.returns
returns c =
    c.is_under.ensures
    ∙ ap (λ z. nat_lt (unsigned_abs z) c.args.limit) (sum_ends c.positions.sum.last c.args.ring.now c.positions.position-index c.positions.sum.sum _ c.positions-test.false c.positions.invariant.sum)
