use Rattle.json_reading.proofs.PlainStrings.{plain_string}
use Rattle.json_reading.proofs.checked_strings.after_string.Goals as goal

pub returns-in-Some : goal.returns-in-Some
returns-in-Some c = (_, plain_string c.args.bytes.now _ _ c.in-Some.ensures)
