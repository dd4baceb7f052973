use Rattle.json_reading.proofs.TextsFound.{not_read}
use Rattle.json_reading.proofs.checking.check.Goals as goal

pub returns-in-Err-Malformed-clause-none : goal.returns-in-Err-Malformed-clause-none
returns-in-Err-Malformed-clause-none c v reads = not_read _ _ _ c.in_default.ensures.cases.1 (rw c.in-Err-Malformed.field-0-is at c.in-Err-Malformed.ensures) reads
