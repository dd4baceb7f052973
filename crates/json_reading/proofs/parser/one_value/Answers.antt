use Rattle.json_reading.proofs.TextsFound.{one_value}
use Rattle.json_reading.proofs.parser.one_value.Goals as goal

pub returns : goal.returns
returns c = one_value
