use Rattle.std.proofs.Common.{arith}
use Rattle.std.proofs.lemmas.Int.{ints}
use Rattle.segment_crossings.proofs.mark.widened.Goals as goal

pub returns-clause-line : goal.returns-clause-line
returns-clause-line c = record {
  at_from = c.others_with.ensures.line;
  at_to = c.others_with-2.ensures.line;
  from_low = omega (arith, ints, c.min-2.ensures.other_bound, c.min.ensures.self_bound, c.cross-from.ensures.value);
  from_high = omega (arith, ints, c.max-2.ensures.other_bound, c.max.ensures.self_bound, c.cross-from.ensures.value);
  to_low = omega (arith, ints, c.min-2.ensures.other_bound, c.min.ensures.other_bound, c.cross-to.ensures.value);
  to_high = omega (arith, ints, c.max-2.ensures.other_bound, c.max.ensures.other_bound, c.cross-to.ensures.value);
}

pub returns-clause-kept : goal.returns-clause-kept
returns-clause-kept c = λ t h. record {
  at_from = c.others_with.ensures.kept t h.at_from;
  at_to = c.others_with-2.ensures.kept t h.at_to;
  from_low = omega (arith, ints, c.min-2.ensures.self_bound, h.from_low);
  from_high = omega (arith, ints, c.max-2.ensures.self_bound, h.from_high);
  to_low = omega (arith, ints, c.min-2.ensures.self_bound, h.to_low);
  to_high = omega (arith, ints, c.max-2.ensures.self_bound, h.to_high);
}
