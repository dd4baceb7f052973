use Rattle.json_reading.proofs.NumbersRead.{whole_by_zero, whole_by_digits}
use Rattle.json_reading.proofs.numbers.after_whole.Goals as goal

pub returns-then-first-eq48 : goal.returns-then-first-eq48
returns-then-first-eq48 c = whole_by_zero _ c.args.bytes.now _ c.in-Some.ensures c.if-first-eq48.true

pub returns : goal.returns
returns c = rw (whole_by_digits _ c.args.bytes.now _ c.in-Some.ensures c.if-first-eq48.false) c.after_some_digits.ensures
