use Rattle.std.proofs.Common.{arith}
use Rattle.std.proofs.lemmas.Int.{ints}
use Rattle.planar_predicates.proofs.extent.joined.Goals as goal

pub returns-clause-first : goal.returns-clause-first
returns-clause-first c = record {
  low_x = omega (arith, ints, c.min.ensures.self_bound);
  low_y = omega (arith, ints, c.min-2.ensures.self_bound);
  high_x = omega (arith, ints, c.max.ensures.self_bound);
  high_y = omega (arith, ints, c.max-2.ensures.self_bound);
}

pub returns-clause-second : goal.returns-clause-second
returns-clause-second c = record {
  low_x = omega (arith, ints, c.min.ensures.other_bound);
  low_y = omega (arith, ints, c.min-2.ensures.other_bound);
  high_x = omega (arith, ints, c.max.ensures.other_bound);
  high_y = omega (arith, ints, c.max-2.ensures.other_bound);
}
