use Rattle.json_value.proofs.Written.{text_reads}
use Rattle.json_value.proofs.laws.text_spells_value.Goals as goal

pub returns : goal.returns
returns c = text_reads
