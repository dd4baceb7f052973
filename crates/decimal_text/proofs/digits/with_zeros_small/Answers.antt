use Rattle.std.proofs.Common.{arith}
use Rattle.decimal_text.proofs.DigitsValue.{past_zeros, more_zeros}
use Rattle.decimal_text.proofs.digits.with_zeros_small.Goals as goal

pub returns-then-value-limit-clause-err : goal.returns-then-value-limit-clause-err
returns-then-value-limit-clause-err c = past_zeros _ c.args.start c.loop-done.value c.loop-done._done _ c.loop-done.invariant.so_far (omega arith) c.loop-done-test.true
