use Rattle.std.specs.Str.{is_utf8}
use Rattle.json_value.proofs.SpelledTexts.{reads_well_formed}
use Rattle.json_reading.proofs.TextsRead.{text_takes}
use Rattle.json_reading.proofs.TextsFound.{is_read, not_read}
use Rattle.json_reading.proofs.parser.parse.Goals as goal

pub returns-in-Ok-clause-formed : goal.returns-in-Ok-clause-formed
returns-in-Ok-clause-formed c = reads_well_formed _ _ _ c.in_default.ensures.cases.1 (text_takes is_utf8 _ _ _ c.in-Ok.ensures)

pub returns-in-Ok-clause-only : goal.returns-in-Ok-clause-only
returns-in-Ok-clause-only c v utf8 reads = is_read _ _ _ _ utf8 c.in-Ok.ensures reads

pub returns-in-Err-Malformed-clause-only : goal.returns-in-Err-Malformed-clause-only
returns-in-Err-Malformed-clause-only c v utf8 reads = absurd (not_read _ _ _ utf8 (rw c.in-Err-Malformed.field-0-is at c.in-Err-Malformed.ensures) reads)

pub returns-in-Err-Malformed-clause-none : goal.returns-in-Err-Malformed-clause-none
returns-in-Err-Malformed-clause-none c v reads = not_read _ _ _ c.in_default.ensures.cases.1 (rw c.in-Err-Malformed.field-0-is at c.in-Err-Malformed.ensures) reads
