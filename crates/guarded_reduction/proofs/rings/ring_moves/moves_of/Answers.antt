use Rattle.std.proofs.Common.{◌≡◌, ◌+◌, ◌-◌, ap, ◌∙◌, drop, arith}
use Rattle.guarded_reduction.specs.Moves.{moves}
use Rattle.guarded_reduction.proofs.Users.{all_steps_taken, one_step_more}
use Rattle.guarded_reduction.proofs.rings.ring_moves.moves_of.Goals as goal

pub loop-i-preserved : goal.loop-i-preserved
loop-i-preserved c = record {
  some = omega arith;
  few = omega (arith, c.loop-i.invariant.few, c.step-moves.ensures.most);
  rest =
      let z : (c.loop-i.i + 1) - 1 ≡ c.loop-i.i = omega arith in
      ap (λ k. (c.loop-i.moves + c.step-moves.result) + moves (drop k c.args.positions.now)) z
      ∙ one_step_more c.args.positions.now c.index-positions-i.result c.index-positions-i-in-loop-i.result c.loop-i.i c.loop-i.moves (c.loop-i.moves + c.step-moves.result) c.loop-i.invariant.some c.loop-i-test.true
      c.index-positions-i.is c.index-positions-i-in-loop-i.is c.loop-i.invariant.rest (ap (λ k. c.loop-i.moves + k) c.step-moves.ensures.value);
}

pub returns : goal.returns
returns c = all_steps_taken c.args.positions.now c.loop-i.i c.loop-i.moves c.loop-i-test.false c.loop-i.invariant.rest
