-- What one write of the device took, after those before it.
use Rattle.std.proofs.Common.{arith, refl, ◌∙◌}
use Rattle.byte_ends.proofs.Writing.{Takes-none, Takes-more, rest_of}
use Rattle.byte_ends.proofs.sink.Sink.put.Goals as goal

pub returns-then-failures-gt0-clause-wrote : goal.returns-then-failures-gt0-clause-wrote
returns-then-failures-gt0-clause-wrote g c = record {
  broken = λ _. refl;
  many = 0;
  took = rw (← c.self.view_is) (Takes-none _ _ c.self.invariant.small);
  counted = omega arith;
  failed = rw (← c.self.view_is) (omega arith);
}

pub loop-at-init : goal.loop-at-init
loop-at-init g c = record {
  started = rw (← c.self.view_is) (omega arith);
  counted = omega arith;
  takes = rw (← c.self.view_is) (Takes-none _ _ c.self.invariant.small);
  sound = omega arith;
  late = c.self.invariant.late;
  small = c.self.invariant.small;
}

pub loop-at-preserved : goal.loop-at-preserved
loop-at-preserved g c =
    let reported = rw rest_of at c.in-Ok.ensures in
    record {
      started = c.loop-at.invariant.started;
      counted = omega arith;
      takes = Takes-more _ _ _ _ _ _ c.loop-at.invariant.takes reported.bound reported.bytes c.saturating_add-self-inside.ensures;
      sound = omega arith;
      late = reported.late.0 c.loop-at.invariant.sound ∙ c.loop-at.invariant.late;
      small = omega arith;
    }
