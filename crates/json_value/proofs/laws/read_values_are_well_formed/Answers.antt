use Rattle.json_value.proofs.SpelledTexts.{reads_well_formed}
use Rattle.json_value.proofs.laws.read_values_are_well_formed.Goals as goal

pub returns : goal.returns
returns c = reads_well_formed
