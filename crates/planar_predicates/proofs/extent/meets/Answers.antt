use Rattle.std.proofs.Common.{arith}
use Rattle.std.proofs.lemmas.Int.{ints}
use Rattle.planar_predicates.proofs.extent.meets.Goals as goal

pub returns-then-meets_along : goal.returns-then-meets_along
returns-then-meets_along c = λ p h k. c.meets_along-then-meets_along.ensures p.y (omega (arith, ints, h.low_y)) (omega (arith, ints, h.high_y)) (omega (arith, ints, k.low_y)) (omega (arith, ints, k.high_y))

pub returns-else-meets_along : goal.returns-else-meets_along
returns-else-meets_along c = λ p h k. c.meets_along.ensures p.x (omega (arith, ints, h.low_x)) (omega (arith, ints, h.high_x)) (omega (arith, ints, k.low_x)) (omega (arith, ints, k.high_x))
