use Rattle.std.proofs.Common.{sym}
use Rattle.json_reading.proofs.Words.{after_word_takes}
use Rattle.json_cursor.proofs.Openings.{first_byte}
use Rattle.json_reading.proofs.PlainStrings.{plain_string, word_ends}
use Rattle.json_cursor.proofs.names.quoted_at.Goals as goal

pub returns : goal.returns
returns c =
    let inside = c.args.inside.now in
    let end = c.in-Some-after_byte.name_end.now in
    plain_string inside c.args.word.now end
    (word_ends inside c.args.word.now c.in-Some.quoted.now end (after_word_takes c.args.word.now inside _ (sym (rw c.as_bytes.ensures.value at c.in-Some.ensures))) (first_byte 34 _ _ c.in-Some-after_byte.ensures) c.requires)
